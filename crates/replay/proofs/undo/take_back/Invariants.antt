-- The memory is what taking back the entries from k on leaves.
use mathlib.Core.Path.{◌≡◌}
use lib.ListN.{drop}
use Rattle.encoding.specs.Set.{mem_of}
use Rattle.reduction.specs.Log.{pairs}
use Rattle.replay.specs.Workers.{mem_taken_back}
use Rattle.replay.proofs.undo.take_back.Given as goal

abbrev pub invariant-loop-k : goal.invariant-loop-k
invariant-loop-k l = mem_of l.m l.x l.z l.phases ≡ mem_taken_back l.n (drop l.k (pairs l.log)) (mem_of l.m l.initial.x l.initial.z l.initial.phases)
