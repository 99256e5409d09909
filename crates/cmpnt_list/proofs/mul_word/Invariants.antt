-- Rows from 32 j up to r are written, with their numbers (`Written`), and their exponents lie in the word, 0 past r (`PhasesOf`).
use Rattle.encoding.specs.Limits.{max_rows}
use Rattle.encoding.specs.Set.{set_of}
use Rattle.cmpnt_list.specs.Workers.{word_end, Written, PhasesOf}
use mathlib.Core.Path.{◌≡◌}
use Prim.Native.Nat.{◌+◌, ◌*◌, ◌≤◌}
use lib.ListN.{length}
use Rattle.cmpnt_list.proofs.mul_word.Given as goal

abbrev pub invariant-loop-r : goal.invariant-loop-r
invariant-loop-r l =
    (l.j * 32 ≤ l.r)
    × (l.r ≤ l.end)
    × (l.end ≤ l.left.m)
    × (l.end ≤ l.j * 32 + 32)
    × (l.left.m ≤ max_rows)
    × (length l.clashes ≡ l.left.m)
    × (l.end ≡ word_end l.left.m l.j)
    × Written l.left.n (set_of l.left) (set_of l.right) l.r l.ox l.oz l.clashes
    × PhasesOf l.left.n (set_of l.left) (set_of l.right) l.j l.r l.word
