-- A number has the new mark if it stands in the list below the place come to, and else the mark that it had (`Marking`).
use Rattle.replay.proofs.Marks.{Marking}
use Rattle.replay.proofs.entries.mark.Given as goal

abbrev pub invariant-loop-number : goal.invariant-loop-number
invariant-loop-number l = Marking l.list l.value l.initial.marks l.number-index l.marks
