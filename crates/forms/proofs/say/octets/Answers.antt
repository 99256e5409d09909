use Rattle.forms.proofs.Kit.{arith}
use Rattle.forms.proofs.Octets.{begun, onward, stopped, all}
use Rattle.forms.proofs.say.octets.Goals as goal

pub loop-b-init : goal.loop-b-init
loop-b-init c = begun _ _ _ c.in_ok-end.ensures

pub returns-in_err-end-2 : goal.returns-in_err-end-2
returns-in_err-end-2 c = rw c.from_residual-in_err-end-2.ensures (stopped _ _ _ c.loop-b.invariant (omega arith) c.in_err-end-2.ensures)

pub loop-b-preserved : goal.loop-b-preserved
loop-b-preserved c = onward _ _ _ c.loop-b.invariant (omega arith) c.in_ok-end-2.ensures

pub returns : goal.returns
returns c = all _ _ _ c.loop-b.invariant (omega arith)
