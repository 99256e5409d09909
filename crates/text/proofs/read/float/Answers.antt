use Rattle.text.proofs.Places.{float-none, as-float}
use Rattle.text.proofs.read.float.Goals as goal

pub returns-in_err-bits : goal.returns-in_err-bits
returns-in_err-bits c = rw c.from_residual.ensures (float-none c.args.s.now c.args.at c.in_err-bits.ensures)

pub returns : goal.returns
returns c = rw c.float_of.ensures (as-float _ _ c.in_ok-bits.ensures)
