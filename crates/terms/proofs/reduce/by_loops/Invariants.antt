-- What is left of the order, done from here, is the whole order done from the start, and t is at most the number of listed rows (`Going`).
use Rattle.terms.proofs.Steps.{Going}
use Rattle.terms.specs.Workers.{going_on, start}
use Rattle.reduction.specs.Workers.{column_c}
use Rattle.reduction.specs.Log.{capacity}
use Rattle.encoding.specs.Set.{mem_of}
use Rattle.pauli.specs.Row.{mul_row, bit_row}
use Prim.Native.Nat.{◌≤◌}
use lib.ListN.{length}
use Rattle.terms.proofs.reduce.by_loops.Given as goal

abbrev pub invariant-loop-c : goal.invariant-loop-c
invariant-loop-c l = (l.r.t ≤ length l.lists.listed.now) × Going l.n (column_c (bit_row l.n) (mul_row l.n) (capacity l.initial.log) l.lists.listed.now l.lists.extra.now) l.lists.order.now (mem_of l.m l.initial.x l.initial.z l.initial.p) l.initial.log start (mem_of l.m l.x l.z l.p) l.log (going_on l.r) l.c-index
