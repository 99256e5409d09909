-- `matrix::prepare` meets its contract. Assumes nothing.
use Rattle.matrix.proofs.Gathering.{prepared}
use Rattle.std.proofs.Common.{rules}
use Rattle.matrix.proofs.prepare.Goals as goal

pub returns : goal.returns
returns c =
    prepared c.args.b.now c.args.w c.args.first c.args.k c.gather.ensures (search rules) c.turn.ensures (search rules) c.requires.3 c.tables.ensures
