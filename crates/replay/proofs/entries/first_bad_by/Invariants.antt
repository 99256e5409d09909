-- The first bad entry of those from i on, counted from i, is the first bad entry of the log.
use mathlib.Core.Path.{◌≡◌}
use lib.ListN.{drop}
use Rattle.reduction.specs.Log.{pairs}
use Rattle.replay.specs.Workers.{good_by, first_bad_by}
use Rattle.replay.proofs.entries.first_bad_by.Given as goal

abbrev pub invariant-loop-i : goal.invariant-loop-i
invariant-loop-i l = first_bad_by (good_by l.marks) l.i (drop l.i (pairs l.log)) ≡ first_bad_by (good_by l.marks) 0 (pairs l.log)
