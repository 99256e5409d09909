-- What is written, with what is still to come behind it, is the text with a space before it (Putting.Putting): each step takes a piece over.
-- Assumes nothing.
use Rattle.row_text.proofs.Kit.{◌-◌}
use Rattle.encoding.specs.Words.{qubits}
use Rattle.row_text.proofs.Putting.{Putting}
use Rattle.row_text.proofs.fmt.put_row.Given as goal

abbrev pub invariant-loop-q : goal.invariant-loop-q
invariant-loop-q l = Putting (qubits l.n l.x l.z) l.initial.out l.out l.at l.q

abbrev pub decreases-loop-q : goal.decreases-loop-q
decreases-loop-q l = l.n - l.q
