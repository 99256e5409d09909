use mathlib.Core.Path.{sym, ◌∙◌}
use mir.Facts.{to_z-of_z}
use Rattle.checked.specs.Range.{gauss, conj_times, conj_fits}
use Rattle.checked.specs.Workers.{complex, checked_product, checked_conjugate, checked_pair}
use Rattle.checked.proofs.Laws.{told-some, told-none}
use Rattle.checked.proofs.pair.Goals as goal

pub returns-in_err-conjugate_product : goal.returns-in_err-conjugate_product
unfolding checked_conjugate checked_pair
returns-in_err-conjugate_product c =
    let a = c.args in
    let f = c.ranges in
    let e = rw (to_z-of_z f.a, to_z-of_z f.b, to_z-of_z f.c, to_z-of_z f.d) at c.conjugate_product.ensures in
    let n = told-none (conj_fits (gauss a.a a.b) (gauss a.c a.d)) _ (sym e ∙ c.in_err-conjugate_product.was) in
    rw n c.from_residual.ensures

pub returns : goal.returns
unfolding checked_product checked_conjugate checked_pair
returns c =
    let a = c.args in
    let f = c.ranges in
    let e = rw (to_z-of_z f.a, to_z-of_z f.b, to_z-of_z f.c, to_z-of_z f.d) at c.conjugate_product.ensures in
    let p = told-some (conj_fits (gauss a.a a.b) (gauss a.c a.d)) (complex (conj_times (gauss a.a a.b) (gauss a.c a.d))) _ (sym e ∙ c.in_ok-conjugate_product.was) in
    rw p.0 (rw p.1 at c.complex_product.ensures)
