-- `late::rows::mul_by` meets its contract: the words of all three rows lie inside, the row that is written is the left one or lies past it, and the
-- exponent follows from those of the two rows and of the product. Assumes nothing.
use Rattle.late.proofs.View.{small-start, room_by}
use mathlib.Core.Path.{refl}
use native.Mathlib.Omega.{arith}
use Rattle.late.proofs.rows.mul_by.Goals as goal

pub overflow_mul-d : goal.overflow_mul-d
overflow_mul-d c = omega (arith, small-start c.args.d.0 c.args.w (omega (arith, c.requires.a_in, c.requires.d-in, c.requires.b-in, c.requires.few, c.requires.few-by)) c.requires.narrow)

pub overflow_mul-a : goal.overflow_mul-a
overflow_mul-a c = omega (arith, small-start c.args.a.0 c.args.w (omega (arith, c.requires.a_in, c.requires.d-in, c.requires.b-in, c.requires.few, c.requires.few-by)) c.requires.narrow)

pub overflow_mul-b : goal.overflow_mul-b
overflow_mul-b c = omega (arith, small-start c.args.b.0 c.args.w (omega (arith, c.requires.a_in, c.requires.d-in, c.requires.b-in, c.requires.few, c.requires.few-by)) c.requires.narrow)

pub mul_into-f-requires : goal.mul_into-f-requires
mul_into-f-requires c = room_by c.requires

pub returns : goal.returns
returns c = record { factor = c.mul_into-f.result; words = c.mul_into-f.ensures; many = refl; exponents = c.add_exponent.ensures }
