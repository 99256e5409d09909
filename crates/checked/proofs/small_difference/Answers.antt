-- No loop: two products of i32 are narrow, so their difference stays within i64 (`imaginary-never`),
-- and what is stored and read back is the true number.
use lib.IntN.{◌-ℤ◌, ◌*ℤ◌}
use mir.Facts.{to_z-of_z}
use Rattle.checked.proofs.Laws.{good}
use Rattle.checked.proofs.Small.{imaginary-never}
use borrow.Author.Rules.{sfits_of}
use Rattle.checked.proofs.small_difference.Goals as goal

pub overflow_sub-result : goal.overflow_sub-result
overflow_sub-result c =
    let a = c.args in
    let f = c.ranges in
    let e = rw (to_z-of_z f.a, to_z-of_z f.b) at c.small_product.ensures in
    let g = rw (to_z-of_z f.c, to_z-of_z f.d) at c.small_product-2.ensures in
    rw (to_z-of_z (sfits_of c.small_product.type_inv), to_z-of_z (sfits_of c.small_product-2.type_inv), e, g)
    (good (a.a *ℤ a.b -ℤ a.c *ℤ a.d) (imaginary-never a.a a.c a.d a.b f.a f.c f.d f.b))

pub returns : goal.returns
returns c =
    let a = c.args in
    let f = c.ranges in
    let e = rw (to_z-of_z f.a, to_z-of_z f.b) at c.small_product.ensures in
    let g = rw (to_z-of_z f.c, to_z-of_z f.d) at c.small_product-2.ensures in
    rw (to_z-of_z {z = c.small_product.result} (sfits_of c.small_product.type_inv), to_z-of_z {z = c.small_product-2.result} (sfits_of c.small_product-2.type_inv), e, g, to_z-of_z (good (a.a *ℤ a.b -ℤ a.c *ℤ a.d) (imaginary-never a.a a.c a.d a.b f.a f.c f.d f.b)))
