-- A bra is one step: its pairs with all kets, from the sum so far on.
use Rattle.std.proofs.Common.{◌≡◌, length, get_or, pos, arith, to_z-of_z, w32, SFits, rules}
use Rattle.mat_elem.proofs.states.Pairs.{none_yet, one_more}
use Rattle.mat_elem.proofs.states.over_bras.Goals as goal

pub loop-i-init : goal.loop-i-init
loop-i-init c = none_yet _ _

pub over_kets-s-requires : goal.over_kets-s-requires
over_kets-s-requires c =
    record {
      ready = c.requires.ready;
      parted = c.requires.parted_2;
    }

pub loop-i-preserved : goal.loop-i-preserved
loop-i-preserved c =
    let a = c.args in
    let i = c.loop-i.i in
    let f : SFits w32 (get_or a.bras.now.re.now i (pos 0)) = search rules in
    let g : SFits w32 (get_or a.bras.now.im.now i (pos 0)) = search rules in
    let q = rw (to_z-of_z f, to_z-of_z g) at c.over_kets-s.ensures in
    one_more _ _ i c.loop-i.invariant q

pub returns : goal.returns
returns c =
    let e : c.loop-i.i ≡ length c.args.bras.now.words.now = omega arith in
    rw e at c.loop-i.invariant
