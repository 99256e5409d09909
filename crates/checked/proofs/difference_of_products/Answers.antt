use mathlib.Core.Path.{sym, ◌∙◌}
use lib.IntN.{◌*ℤ◌}
use mir.Facts.{to_z-of_z}
use Rattle.checked.proofs.Laws.{read-back}
use Rattle.checked.proofs.difference_of_products.Goals as goal

pub returns : goal.returns
returns c =
    let a = c.args in
    let p = read-back (a.a *ℤ a.b) _ (sym (rw (to_z-of_z c.ranges.a, to_z-of_z c.ranges.b) at c.product.ensures) ∙ c.in_ok-product.was) in
    let q = read-back (a.c *ℤ a.d) _ (sym (rw (to_z-of_z c.ranges.c, to_z-of_z c.ranges.d) at c.product-2.ensures) ∙ c.in_ok-product-2.was) in
    rw (p.0, q.0) (rw (p.1, q.1) at c.difference.ensures)
