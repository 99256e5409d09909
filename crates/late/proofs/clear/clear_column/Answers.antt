-- `late::clear::clear_column` meets its contract: the column is read in the X words or in the Z words, of rows and table alike, and `clear_both` runs there.
-- Assumes nothing.
use Rattle.late.proofs.ColumnBits.{sees}
use Rattle.late.proofs.clear.clear_column.Goals as goal

pub clear_both-requires : goal.clear_both-requires
clear_both-requires c =
    let o = c.requires.turn_in.shape.owing in
    record {
      turn_in = c.requires.turn_in;
      sees = (sees o.rows o.table c.requires.turn_in.c-in c.column_at-col.ensures, c.requires.below.0, c.requires.below.1);
    }

pub returns : goal.returns
returns c = c.clear_both.ensures
