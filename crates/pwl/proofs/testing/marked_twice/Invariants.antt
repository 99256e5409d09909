-- What is left of the list has no number twice and finds no mark exactly when the whole list has no number twice (`Marking`, of the lists in memory).
use lib.ListN.{drop}
use Rattle.pwl.specs.Bytes.{nums}
use Rattle.terms.proofs.Scans.{Marking}
use Rattle.pwl.proofs.Marks.{spread}
use Rattle.pwl.proofs.testing.marked_twice.Given as goal

abbrev pub invariant-loop-i : goal.invariant-loop-i
invariant-loop-i l = Marking (nums 2 l.count (drop l.at l.s)) l.i (spread l.marks)
