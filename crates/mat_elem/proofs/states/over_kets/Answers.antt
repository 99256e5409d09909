-- A pair is one step: the element by the search, and the checked sum with it.
use Rattle.std.proofs.Common.{◌≡◌, ℤ, length, get_or, pos, ap, ◌∙◌, arith, to_z-of_z, w32, SFits, to_z, of_z, rules}
use Rattle.checked.specs.Range.{gauss}
use Rattle.checked.specs.Workers.{checked_pair, plus_checked}
use Rattle.checked.specs.declared.Complex.{Complex}
use Rattle.mat_elem.proofs.states.Pairs.{none_yet, one_more}
use Rattle.mat_elem.proofs.states.over_kets.Goals as goal

pub loop-j-init : goal.loop-j-init
loop-j-init c = none_yet _ _

pub pair_element-e-requires : goal.pair_element-e-requires
pair_element-e-requires c = c.requires.ready

pub loop-j-preserved : goal.loop-j-preserved
loop-j-preserved c =
    let a = c.args in
    let j = c.loop-j.j in
    let b = gauss (to_z w32 (of_z w32 a.br)) (to_z w32 (of_z w32 a.bi)) in
    let k = gauss (get_or a.kets.now.re.now j (pos 0)) (get_or a.kets.now.im.now j (pos 0)) in
    let f : SFits w32 (get_or a.kets.now.re.now j (pos 0)) = search rules in
    let g : SFits w32 (get_or a.kets.now.im.now j (pos 0)) = search rules in
    let q = rw (to_z-of_z f, to_z-of_z g) at c.add_pair-s.ensures in
    one_more _ _ j c.loop-j.invariant (q ∙ ap (λ (d : Complex ℤ). plus_checked c.loop-j.s (checked_pair b k (gauss d.re d.im))) c.pair_element-e.ensures)

pub returns : goal.returns
returns c =
    let e : c.loop-j.j ≡ length c.args.kets.now.words.now = omega arith in
    rw (to_z-of_z c.ranges.br, to_z-of_z c.ranges.bi, e) at c.loop-j.invariant
