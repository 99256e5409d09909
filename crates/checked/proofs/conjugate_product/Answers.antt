-- No loop: of i32 parts the four products and the imaginary sum never leave i64 (`four-never`, `imaginary-never`), so the real sum decides.
use mathlib.Core.Path.{sym, ◌∙◌}
use lib.IntN.{◌+ℤ◌, ◌*ℤ◌}
use mir.Facts.{to_z-of_z}
use borrow.Author.Rules.{sfits_of}
use Rattle.checked.specs.Range.{within}
use Rattle.checked.specs.Workers.{checked_conjugate}
use Rattle.checked.proofs.Laws.{read-back, told-none}
use Rattle.checked.proofs.Small.{four-never, imaginary-never}
use Rattle.checked.proofs.conjugate_product.Goals as goal

pub returns-in_err-small_sum : goal.returns-in_err-small_sum
unfolding checked_conjugate
returns-in_err-small_sum c =
    let a = c.args in
    let f = c.ranges in
    let e = rw (to_z-of_z f.a, to_z-of_z f.b, to_z-of_z f.c, to_z-of_z f.d) at c.small_sum.ensures in
    let n = told-none (within (a.a *ℤ a.c +ℤ a.b *ℤ a.d)) _ (sym e ∙ c.in_err-small_sum.was) in
    rw (four-never a.a a.b a.c a.d f.a f.b f.c f.d, n) c.from_residual.ensures

pub returns : goal.returns
unfolding checked_conjugate
returns c =
    let a = c.args in
    let f = c.ranges in
    let e = rw (to_z-of_z f.a, to_z-of_z f.b, to_z-of_z f.c, to_z-of_z f.d) at c.small_sum.ensures in
    let g = rw (to_z-of_z f.a, to_z-of_z f.b, to_z-of_z f.c, to_z-of_z f.d) at c.small_difference.ensures in
    let p = read-back (a.a *ℤ a.c +ℤ a.b *ℤ a.d) _ (sym e ∙ c.in_ok-small_sum.was) in
    rw (p.1, to_z-of_z (sfits_of c.small_difference.type_inv), g, four-never a.a a.b a.c a.d f.a f.b f.c f.d, p.0, imaginary-never a.a a.b a.c a.d f.a f.b f.c f.d)
