-- `matrix::one_column` meets its contract. Assumes nothing.
use Rattle.matrix.proofs.Storing.{down-more}
use Rattle.matrix.proofs.one_column.Goals as goal

pub returns : goal.returns
returns c = down-more c.requires.v_le_wide.1 c.requires.right_where c.column.ensures c.store.ensures
