-- The first row that differs of those from i on is the first of all.
use mathlib.Core.Path.{◌≡◌}
use Prim.Native.Nat.{◌-◌}
use Rattle.pauli.specs.Row.{same_row}
use Rattle.encoding.specs.Set.{set_of, rows_of}
use Rattle.reduction.specs.Checker.{first_diff}
use Rattle.replay.proofs.rows.first_diff.Given as goal

abbrev pub invariant-loop-i : goal.invariant-loop-i
invariant-loop-i l =
    first_diff (same_row l.set.n) (rows_of l.set.n (set_of l.set)) (rows_of l.set.n (set_of l.claimed)) l.i (l.set.m - l.i) ≡ first_diff (same_row l.set.n) (rows_of l.set.n (set_of l.set)) (rows_of l.set.n (set_of l.claimed)) 0 l.set.m
