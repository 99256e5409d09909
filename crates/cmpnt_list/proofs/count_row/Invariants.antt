-- The count so far, with that of the words from i on, is that of the whole row, and it is at most 64 a word, so that the sum fits (`Tallied`).
-- A word more moves its count from the second to the first (`tallied-more`).
use Prim.Native.Nat.{◌-◌}
use lib.ListN.{length}
use Rattle.cmpnt_list.proofs.Counting.{Tallied}
use Rattle.cmpnt_list.proofs.count_row.Given as goal

abbrev pub invariant-loop-i : goal.invariant-loop-i
invariant-loop-i l = Tallied l.p l.x l.z l.k l.i

abbrev pub decreases-loop-i : goal.decreases-loop-i
decreases-loop-i l = length l.x - l.i
