-- No loop: a product is made where the three numbers of each part are i64 (`product-six`); each part's answer says whether they are, and which number
-- the part is (`told-none`, `told-some`).
use mathlib.Core.Path.{sym, ◌∙◌}
use lib.IntN.{◌+ℤ◌, ◌-ℤ◌, ◌*ℤ◌}
use mir.Facts.{to_z-of_z}
use mir.Syntax.{w64}
use mir.Val.{SFits}
use Rattle.std.proofs.Common.{rules}
use Rattle.checked.specs.Workers.{all, number_of}
use Rattle.checked.proofs.Laws.{told-some, told-none}
use Rattle.checked.proofs.Six.{product-six}
use Rattle.checked.proofs.complex_product.Goals as goal

pub returns-in_err-difference_of_products : goal.returns-in_err-difference_of_products
returns-in_err-difference_of_products c =
    let u = c.args.u in
    let v = c.args.v in
    let f1 : SFits w64 u.re = search rules in
    let f2 : SFits w64 u.im = search rules in
    let f3 : SFits w64 v.re = search rules in
    let f4 : SFits w64 v.im = search rules in
    let e = rw (to_z-of_z f1, to_z-of_z f2, to_z-of_z f3, to_z-of_z f4) at c.difference_of_products.ensures in
    let n = told-none (all (u.re *ℤ v.re) (u.im *ℤ v.im) (u.re *ℤ v.re -ℤ u.im *ℤ v.im)) _ (sym e ∙ c.in_err-difference_of_products.was) in
    rw (product-six (number_of u) (number_of v), n) c.from_residual.ensures

pub returns-in_err-sum_of_products : goal.returns-in_err-sum_of_products
returns-in_err-sum_of_products c =
    let u = c.args.u in
    let v = c.args.v in
    let f1 : SFits w64 u.re = search rules in
    let f2 : SFits w64 u.im = search rules in
    let f3 : SFits w64 v.re = search rules in
    let f4 : SFits w64 v.im = search rules in
    let e = rw (to_z-of_z f1, to_z-of_z f2, to_z-of_z f3, to_z-of_z f4) at c.difference_of_products.ensures in
    let g = rw (to_z-of_z f1, to_z-of_z f2, to_z-of_z f3, to_z-of_z f4) at c.sum_of_products.ensures in
    let p = told-some (all (u.re *ℤ v.re) (u.im *ℤ v.im) (u.re *ℤ v.re -ℤ u.im *ℤ v.im)) _ _ (sym e ∙ c.in_ok-difference_of_products.was) in
    let n = told-none (all (u.re *ℤ v.im) (u.im *ℤ v.re) (u.re *ℤ v.im +ℤ u.im *ℤ v.re)) _ (sym g ∙ c.in_err-sum_of_products.was) in
    rw (product-six (number_of u) (number_of v), p.0, n) c.from_residual-in_err-sum_of_products.ensures

pub returns : goal.returns
returns c =
    let u = c.args.u in
    let v = c.args.v in
    let f1 : SFits w64 u.re = search rules in
    let f2 : SFits w64 u.im = search rules in
    let f3 : SFits w64 v.re = search rules in
    let f4 : SFits w64 v.im = search rules in
    let f5 : SFits w64 c.in_ok-difference_of_products.field-0 = search rules in
    let f6 : SFits w64 c.in_ok-sum_of_products.field-0 = search rules in
    let e = rw (to_z-of_z f1, to_z-of_z f2, to_z-of_z f3, to_z-of_z f4) at c.difference_of_products.ensures in
    let g = rw (to_z-of_z f1, to_z-of_z f2, to_z-of_z f3, to_z-of_z f4) at c.sum_of_products.ensures in
    let p = told-some (all (u.re *ℤ v.re) (u.im *ℤ v.im) (u.re *ℤ v.re -ℤ u.im *ℤ v.im)) _ _ (sym e ∙ c.in_ok-difference_of_products.was) in
    let q = told-some (all (u.re *ℤ v.im) (u.im *ℤ v.re) (u.re *ℤ v.im +ℤ u.im *ℤ v.re)) _ _ (sym g ∙ c.in_ok-sum_of_products.was) in
    rw (to_z-of_z f5, to_z-of_z f6, p.1, q.1, product-six (number_of u) (number_of v), p.0, q.0)
