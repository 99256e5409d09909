-- `late::rows::put_row` meets its contract: the words of X and of Z are copied one after the other, and the exponent after them; each copy leaves
-- the rest as it was. Assumes nothing.
use Rattle.late.proofs.View.{small-start, room_by}
use mathlib.Core.Path.{refl, ap, ◌∙◌}
use native.Mathlib.Omega.{arith}
use Rattle.encoding.specs.Set.{with_exponent}
use Rattle.late.proofs.rows.put_row.Goals as goal

pub overflow_mul-d : goal.overflow_mul-d
overflow_mul-d c = omega (arith, small-start c.args.d.0 c.args.w (omega (arith, c.requires.d-in, c.requires.b-in, c.requires.few, c.requires.few-by)) c.requires.narrow)

pub overflow_mul-b : goal.overflow_mul-b
overflow_mul-b c = omega (arith, small-start c.args.b.0 c.args.w (omega (arith, c.requires.d-in, c.requires.b-in, c.requires.few, c.requires.few-by)) c.requires.narrow)

pub copy_words-requires : goal.copy_words-requires
copy_words-requires c = let r = room_by c.requires in (r.d-x, r.t-x)

pub overflow_mul-d-2 : goal.overflow_mul-d-2
overflow_mul-d-2 c = omega (arith, small-start c.args.d.0 c.args.w (omega (arith, c.requires.d-in, c.requires.b-in, c.requires.few, c.requires.few-by)) c.requires.narrow)

pub overflow_mul-b-2 : goal.overflow_mul-b-2
overflow_mul-b-2 c = omega (arith, small-start c.args.b.0 c.args.w (omega (arith, c.requires.d-in, c.requires.b-in, c.requires.few, c.requires.few-by)) c.requires.narrow)

pub copy_words-requires-2 : goal.copy_words-requires-2
copy_words-requires-2 c = let r = room_by c.requires in (r.d-z, r.t-z)

pub returns : goal.returns
returns c =
    let a = c.args in
    record { x-words = c.copy_words.ensures; z-words = c.copy_words-2.ensures; many = refl; exponents = c.set_exponent.ensures ∙ ap (with_exponent a.p.now a.d.0) c.get_exponent.ensures }
