-- `late::clear::freeze` meets its contract: the table is doubled by the pivot's row, which no row owes yet, so the state stands for the same run; the
-- column is cleared from there. Assumes nothing.
use native.Mathlib.Omega.{arith}
use Rattle.late.proofs.Clearing.{double-in, freeze-in, freeze-then}
use Rattle.late.proofs.clear.freeze.Goals as goal

pub double-requires : goal.double-requires
double-requires c = double-in c.requires.freeze_in

pub overflow_add-r : goal.overflow_add-r
overflow_add-r c = omega (arith, c.requires.freeze_in.few)

pub clear_column-requires : goal.clear_column-requires
clear_column-requires c =
    record {
      turn_in = freeze-in c.requires.freeze_in c.double.ensures;
      below = (c.requires.below.0, c.requires.below.1);
    }

pub returns : goal.returns
returns c = freeze-then c.requires.freeze_in c.double.ensures c.clear_column.ensures
