-- What is left of the list, done from here, is the whole list done from the start; the log so far, and what lies past it, are kept (`Going`).
use Rattle.terms.specs.Workers.{going_on}
use Rattle.terms.proofs.Steps.{Going}
use Rattle.reduction.specs.Workers.{turn_c}
use Rattle.reduction.specs.Log.{capacity}
use Rattle.encoding.specs.Set.{mem_of}
use Rattle.pauli.specs.Row.{mul_row, bit_row}
use Rattle.terms.proofs.reduce.clear.Given as goal

abbrev pub invariant-loop-k : goal.invariant-loop-k
invariant-loop-k l = Going l.n (turn_c (bit_row l.n) (mul_row l.n) (capacity l.initial.log) l.c l.pivot) l.list (mem_of l.m l.initial.x l.initial.z l.initial.p) l.initial.log (going_on l.initial.r) (mem_of l.m l.x l.z l.p) l.log (going_on l.r) l.k-index
