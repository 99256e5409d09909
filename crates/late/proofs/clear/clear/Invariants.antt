-- What is left of the list, done from here, is the whole list done from the start, rows and table stay, and a row with the column does not owe the pivot yet
-- (`Going`).
use Prim.Native.Nat.{◌-◌}
use Rattle.pauli.specs.Row.{mul_row, bit_row}
use Rattle.encoding.specs.Set.{mem_of}
use Rattle.reduction.specs.Log.{capacity}
use Rattle.reduction.specs.Workers.{turn_c}
use Rattle.tabled.specs.Workers.{Clearing}
use Rattle.late.specs.Workers.{table_rows, on, store}
use Rattle.late.proofs.Runs.{Going}
use Rattle.late.proofs.clear.clear.Given as goal

abbrev pub invariant-loop-k : goal.invariant-loop-k
invariant-loop-k l = Going l.n (Clearing (bit_row l.n) (mul_row l.n) l.by.c l.by.row (l.initial.r.g - 1)) (turn_c (bit_row l.n) (mul_row l.n) (capacity l.initial.log) l.by.c l.by.row) l.list (store (mem_of l.m l.x l.z l.p) (mem_of table_rows l.tx l.tz l.tp) l.initial.owed l.initial.log (on l.initial.r)) (store (mem_of l.m l.x l.z l.p) (mem_of table_rows l.tx l.tz l.tp) l.owed l.log (on l.r)) l.k-index
