-- `late::column::find_column` meets its contract: the bit that is read, of the row and of what it owes, is the column of the row when it has paid. Assumes nothing.
use native.Mathlib.Omega.{arith}
use Rattle.late.proofs.ColumnBits.{sees}
use Rattle.late.proofs.Columning.{search-reads, search-found}
use Rattle.late.proofs.column.find_column.Goals as goal

pub find-requires : goal.find-requires
find-requires c =
    let o = c.requires.owing in
    search-reads c.requires (omega arith) (sees o.rows o.table c.requires.c-in c.column_at.ensures)

pub returns : goal.returns
returns c =
    let o = c.requires.owing in
    search-found c.requires (omega arith) (sees o.rows o.table c.requires.c-in c.column_at.ensures) c.find.result c.find.ensures
