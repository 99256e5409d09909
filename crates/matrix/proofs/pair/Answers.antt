-- `matrix::pair` meets its contract. Assumes nothing.
use Rattle.matrix.proofs.Adding.{summed-more}
use Rattle.matrix.proofs.pair.Goals as goal

pub returns : goal.returns
returns c = summed-more c.requires.summed c.part.ensures c.part-2.ensures
