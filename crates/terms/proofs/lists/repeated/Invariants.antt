-- What is left of the list has no number twice and finds no mark exactly when the whole list has no number twice (`Marking`).
use Rattle.terms.proofs.Scans.{Marking}
use Rattle.terms.proofs.lists.repeated.Given as goal

abbrev pub invariant-loop-number : goal.invariant-loop-number
invariant-loop-number l = Marking l.list l.number-index l.marks
