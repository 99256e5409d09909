-- No loop: the answers for the parts say which of them is an i64 (`told-none`), and which number it is (`read-back`).
use mathlib.Core.Path.{sym, ◌∙◌}
use lib.IntN.{◌+ℤ◌}
use mir.Facts.{to_z-of_z}
use mir.Syntax.{w64}
use mir.Val.{SFits}
use Rattle.std.proofs.Common.{rules}
use Rattle.checked.specs.Range.{within}
use Rattle.checked.specs.Workers.{checked_sum}
use Rattle.checked.proofs.Laws.{read-back, told-none}
use Rattle.checked.proofs.complex_sum.Goals as goal

pub returns-in_err-sum : goal.returns-in_err-sum
unfolding checked_sum
returns-in_err-sum c =
    let a = c.args in
    let f : SFits w64 a.u.re = search rules in
    let g : SFits w64 a.v.re = search rules in
    let n = told-none (within (a.u.re +ℤ a.v.re)) _ (sym (rw (to_z-of_z f, to_z-of_z g) at c.sum.ensures) ∙ c.in_err-sum.was) in
    rw n c.from_residual.ensures

pub returns-in_err-sum-2 : goal.returns-in_err-sum-2
unfolding checked_sum
returns-in_err-sum-2 c =
    let a = c.args in
    let f1 : SFits w64 a.u.re = search rules in
    let f2 : SFits w64 a.v.re = search rules in
    let f3 : SFits w64 a.u.im = search rules in
    let f4 : SFits w64 a.v.im = search rules in
    let p = read-back (a.u.re +ℤ a.v.re) _ (sym (rw (to_z-of_z f1, to_z-of_z f2) at c.sum.ensures) ∙ c.in_ok-sum.was) in
    let n = told-none (within (a.u.im +ℤ a.v.im)) _ (sym (rw (to_z-of_z f3, to_z-of_z f4) at c.sum-2.ensures) ∙ c.in_err-sum-2.was) in
    rw (p.0, n) c.from_residual-in_err-sum-2.ensures

pub returns : goal.returns
unfolding checked_sum
returns c =
    let a = c.args in
    let f1 : SFits w64 a.u.re = search rules in
    let f2 : SFits w64 a.v.re = search rules in
    let f3 : SFits w64 a.u.im = search rules in
    let f4 : SFits w64 a.v.im = search rules in
    let p = read-back (a.u.re +ℤ a.v.re) _ (sym (rw (to_z-of_z f1, to_z-of_z f2) at c.sum.ensures) ∙ c.in_ok-sum.was) in
    let q = read-back (a.u.im +ℤ a.v.im) _ (sym (rw (to_z-of_z f3, to_z-of_z f4) at c.sum-2.ensures) ∙ c.in_ok-sum-2.was) in
    rw (p.1, q.1, p.0, q.0)
