use mathlib.Core.Path.{ap₂, ◌∙◌}
use lib.IntN.{ℤ, ◌+ℤ◌}
use mir.Facts.{to_z-of_z}
use Rattle.checked.specs.Workers.{checked}
use borrow.Author.Rules.{sfits_of}
use Rattle.checked.proofs.small_sum.Goals as goal

pub returns : goal.returns
returns c =
    let f = c.ranges in
    let e = rw (to_z-of_z f.a, to_z-of_z f.b) at c.small_product.ensures in
    let g = rw (to_z-of_z f.c, to_z-of_z f.d) at c.small_product-2.ensures in
    (rw (to_z-of_z (sfits_of c.small_product.type_inv), to_z-of_z (sfits_of c.small_product-2.type_inv)) at c.sum.ensures) ∙ ap₂ (λ (x y : ℤ). checked (x +ℤ y)) e g
