-- `one_qubit::turned` meets its contract. Assumes nothing.
use Rattle.one_qubit.proofs.OneTurn.{code-turned}
use Rattle.one_qubit.proofs.turned.Goals as goal

pub returns : goal.returns
returns c = code-turned c.args.v c.args.k c.args.b c.requires c.ranges.v.fits
