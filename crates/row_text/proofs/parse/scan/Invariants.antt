-- The words hold the Paulis read so far, and these go on to be the row of the text, if it is one (InRow.Scan).
use Rattle.row_text.proofs.Kit.{◌-◌, length}
use Rattle.row_text.proofs.InRow.{Scan}
use Rattle.row_text.proofs.parse.scan.Given as goal

abbrev pub invariant-loop-at : goal.invariant-loop-at
invariant-loop-at l = Scan l.n l.s l.x l.z l.q l.at

abbrev pub decreases-loop-at : goal.decreases-loop-at
decreases-loop-at l = length l.s - l.at
