-- A piece is added behind those before it, or does not fit, and then the list does not (Listing). Assumes nothing.
use Rattle.text.proofs.Kit.{None}
use Rattle.text.specs.Numbers.{numeral}
use Rattle.text.proofs.Adding.{whole}
use Rattle.text.proofs.Listing.{begun, none-fits, onward, stopped}
use Rattle.text.proofs.write_list.put_joined.Goals as goal

pub returns-in_err-end : goal.returns-in_err-end
returns-in_err-end g c =
    let a = c.args in
    let f = whole _ _ _ _ None (rw c.wide.ensures at c.in_err-end.ensures) in
    rw c.from_residual.ensures (none-fits (λ x. numeral a.base (g.T.Unsigned.value x)) a.first a.others.now a.out.now a.at f)

pub loop-x-init : goal.loop-x-init
loop-x-init g c = begun _ _ _ _ _ (rw c.wide.ensures at c.in_ok-end.ensures)

pub returns-in_err-end-2 : goal.returns-in_err-end-2
returns-in_err-end-2 g c =
    rw c.from_residual-in_err-end-2.ensures
    (stopped _ _ _ _ _ c.loop-x.invariant c.x-item.result c.loop-x-test.true (rw (c.wide-in-loop-x.ensures, c.x-item.is) at c.in_err-end-2.ensures))

pub loop-x-preserved : goal.loop-x-preserved
loop-x-preserved g c =
    onward _ _ _ _ _ c.loop-x.invariant c.x-item.result c.loop-x-test.true (rw (c.wide-in-loop-x.ensures, c.x-item.is) at c.in_ok-end-2.ensures)
