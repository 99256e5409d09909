use Rattle.late.proofs.Columning.{power-is}
use Rattle.late.proofs.column.power.Goals as goal

pub returns : goal.returns
returns c = power-is c.args.g c.requires
