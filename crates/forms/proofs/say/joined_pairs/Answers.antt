use Prim.Native.Nat.{◌/◌}
use Rattle.forms.proofs.Kit.{arith, ◌<◌, length}
use Rattle.forms.specs.Answers.{pair_text, pairs_of}
use Rattle.forms.proofs.Pairs.{length_pairs, pair-at}
use Rattle.text.proofs.Listing.{begun, none-fits, onward, stopped, all}
use Rattle.forms.proofs.say.joined_pairs.Goals as goal

pub returns-in_err-end : goal.returns-in_err-end
returns-in_err-end c = rw c.from_residual.ensures (none-fits pair_text (c.args.a, c.args.b) (pairs_of c.args.others.now) c.args.out.now c.args.at c.in_err-end.ensures)

pub loop-i-init : goal.loop-i-init
loop-i-init c = begun _ _ _ _ _ c.in_ok-end.ensures

pub returns-in_err-end-2 : goal.returns-in_err-end-2
returns-in_err-end-2 c =
    let l = c.args.others.now in
    let i = c.loop-i.i in
    let h : i < length l / 2 = omega (arith, c.loop-i-test.true) in
    rw c.from_residual-in_err-end-2.ensures
    (stopped _ _ _ _ _ c.loop-i.invariant (0, 0) (omega (arith, h, length_pairs l)) (rw (pair-at l i h) c.in_err-end-2.ensures))

pub loop-i-preserved : goal.loop-i-preserved
loop-i-preserved c =
    let l = c.args.others.now in
    let i = c.loop-i.i in
    let h : i < length l / 2 = omega (arith, c.loop-i-test.true) in
    onward _ _ _ _ _ c.loop-i.invariant (0, 0) (omega (arith, h, length_pairs l)) (rw (pair-at l i h) c.in_ok-end-2.ensures)

pub returns : goal.returns
returns c = all _ _ _ _ _ c.loop-i.invariant (omega (arith, c.loop-i-test.false, length_pairs c.args.others.now))
