use Rattle.matrix.proofs.Adding.{summed-none}
use Rattle.matrix.proofs.column.Goals as goal

pub pairs-requires-clause-summed : goal.pairs-requires-clause-summed
pairs-requires-clause-summed c = summed-none c.mask.ensures c.start.ensures
