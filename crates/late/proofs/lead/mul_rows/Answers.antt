-- `late::lead::mul_rows` meets its contract: both rows lie inside the set's words and are the same or apart, so the leaf of products multiplies them, and
-- exponents are added. Assumes nothing.
use native.Mathlib.Omega.{arith}
use mathlib.Core.Path.{refl}
use Rattle.late.proofs.View.{small-start}
use Rattle.late.proofs.Leading.{product-by}
use Rattle.late.proofs.lead.mul_rows.Goals as goal

pub overflow_mul-a : goal.overflow_mul-a
overflow_mul-a c = omega (arith, small-start c.args.a.0 c.args.w (omega (arith, c.requires.d-in, c.requires.few)) c.requires.narrow)

pub overflow_mul-b : goal.overflow_mul-b
overflow_mul-b c = omega (arith, small-start c.args.b.0 c.args.w (omega (arith, c.requires.b-in, c.requires.few)) c.requires.narrow)

pub returns : goal.returns
returns c = record { factor = c.imul_op_op-f.result; words = product-by c.requires c.imul_op_op-f.ensures; many = refl; exponents = c.add_exponent_of.ensures }
