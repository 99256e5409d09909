-- The rows of the phase words before word j are written, with their numbers (`Written`), and each of these words holds the exponents of its rows (`PhasesOf`).
use Rattle.encoding.specs.Limits.{max_rows}
use Rattle.encoding.specs.Set.{set_of, phase_units}
use Rattle.cmpnt_list.specs.Workers.{rows_before, Written, PhasesOf}
use mathlib.Core.Path.{◌≡◌}
use Prim.Native.Nat.{ℕ, ◌<◌, ◌≤◌}
use lib.ListN.{length, get_or}
use Rattle.cmpnt_list.proofs.mul_rows.Given as goal

abbrev pub invariant-loop-j : goal.invariant-loop-j
invariant-loop-j l =
    (l.j ≤ length l.op)
    × (length l.op ≡ phase_units l.left.m)
    × (l.left.m ≤ max_rows)
    × Written l.left.n (set_of l.left) (set_of l.right) (rows_before l.left.m l.j) l.ox l.oz l.clashes
    × ((i : ℕ) → i < l.j → PhasesOf l.left.n (set_of l.left) (set_of l.right) i l.left.m (get_or l.op i 0))
