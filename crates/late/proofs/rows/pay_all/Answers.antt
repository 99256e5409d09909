use Rattle.late.proofs.View.{paying-none, paying-more, paying-all}
use Rattle.late.proofs.rows.pay_all.Goals as goal

pub loop-k-init : goal.loop-k-init
loop-k-init c = paying-none c.requires

pub pay-requires : goal.pay-requires
pay-requires c = (c.loop-k.invariant.owing, c.loop-k-test.true)

pub loop-k-preserved : goal.loop-k-preserved
loop-k-preserved c = paying-more c.requires c.loop-k.invariant c.loop-k-test.true c.pay.ensures

pub returns : goal.returns
returns c = paying-all c.requires c.loop-k.invariant c.loop-k-test.false
