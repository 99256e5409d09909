-- The memory is the one with the first i entries done.
use mathlib.Core.Path.{◌≡◌}
use lib.ListN.{take}
use Rattle.encoding.specs.Set.{mem_of}
use Rattle.reduction.specs.Log.{pairs}
use Rattle.replay.specs.Workers.{redone}
use Rattle.replay.proofs.rows.redo.Given as goal

abbrev pub invariant-loop-i : goal.invariant-loop-i
invariant-loop-i l =
    mem_of l.m l.x l.z l.phases ≡ redone l.n (take l.i (pairs l.log)) (mem_of l.m l.initial.x l.initial.z l.initial.phases)
