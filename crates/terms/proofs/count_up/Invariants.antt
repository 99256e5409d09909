-- The list keeps its length, and number j stands at each place j below i: writing i at place i changes no earlier place (`count-more`), and a list of
-- m places with j at each is the numbers from 0 on (`count-all`).
use mathlib.Core.Path.{◌≡◌}
use Prim.Native.Nat.{ℕ, ◌<◌}
use lib.ListN.{length, get_or}
use Rattle.terms.proofs.count_up.Given as goal

abbrev pub invariant-loop-i : goal.invariant-loop-i
invariant-loop-i l = (length l.list ≡ l.m) × ((j : ℕ) → j < l.i → get_or l.list j 0 ≡ j)
