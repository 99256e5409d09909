-- The sum so far and what the look-ups to come bring in the words to come are the whole, mod 4.
use Rattle.table.specs.Table.{table_phase}
use Rattle.table.proofs.Walks.{Rowed}
use Rattle.table.proofs.look_row.Given as goal

abbrev pub invariant-loop-i : goal.invariant-loop-i
invariant-loop-i l = Rowed (table_phase l.n l.lx l.lz l.rx l.rz) l.left l.e l.i l.lx l.lz l.rx l.rz
