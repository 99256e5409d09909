-- What is left of the order, done from here, is the whole order done from the start, t is at most the number of listed rows, and rows owe pivots of the block only
-- (`Going`).
use Prim.Native.Nat.{◌≤◌}
use lib.ListN.{length}
use Rattle.pauli.specs.Row.{mul_row, bit_row}
use Rattle.encoding.specs.Set.{mem_of}
use Rattle.reduction.specs.Log.{capacity}
use Rattle.reduction.specs.Workers.{column_c}
use Rattle.tabled.specs.Workers.{Within}
use Rattle.late.specs.Workers.{table_rows, block_pivots, on, store, begun}
use Rattle.late.proofs.Runs.{Going}
use Rattle.late.proofs.column.columns.Given as goal

abbrev pub invariant-loop-c : goal.invariant-loop-c
invariant-loop-c l = (l.r.t ≤ length l.lists.listed.now) × Going l.n (Within block_pivots) (column_c (bit_row l.n) (mul_row l.n) (capacity l.initial.log) l.lists.listed.now l.lists.extra.now) l.lists.order.now (store (mem_of l.m l.initial.x l.initial.z l.initial.p) (mem_of table_rows l.initial.tx l.initial.tz l.initial.tp) l.initial.owed l.initial.log begun) (store (mem_of l.m l.x l.z l.p) (mem_of table_rows l.tx l.tz l.tp) l.owed l.log (on l.r)) l.c-index
