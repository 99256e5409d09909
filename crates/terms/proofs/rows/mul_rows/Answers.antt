-- Rows a and b start at a × w and b × w, which fit a machine word since rows and words are few (`small-start`). The leaf's product of the two
-- parts is the product of the rows (`rows-multiplied`).
use Rattle.terms.proofs.InSet.{rows-multiplied}
use Rattle.late.proofs.View.{small-start}
use mathlib.Core.Path.{refl}
use native.Mathlib.Omega.{arith}
use Rattle.terms.proofs.rows.mul_rows.Goals as goal

pub overflow_mul-a : goal.overflow_mul-a
overflow_mul-a c = omega (arith, small-start c.args.a.0 c.args.w (omega (arith, c.requires.a_in, c.requires.few)) c.requires.narrow)

pub overflow_mul-b : goal.overflow_mul-b
overflow_mul-b c = omega (arith, small-start c.args.b.0 c.args.w (omega (arith, c.requires.b-in, c.requires.few)) c.requires.narrow)

pub returns : goal.returns
returns c =
    rows-multiplied c.requires c.imul_op_op-f.ensures c.add_exponent_of.ensures c.args.m refl
