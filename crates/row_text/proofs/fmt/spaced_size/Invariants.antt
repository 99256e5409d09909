use Rattle.row_text.proofs.Kit.{◌-◌}
use Rattle.encoding.specs.Words.{qubits}
use Rattle.row_text.proofs.Putting.{Measuring}
use Rattle.row_text.proofs.fmt.spaced_size.Given as goal

abbrev pub invariant-loop-q : goal.invariant-loop-q
invariant-loop-q l = Measuring (qubits l.n l.x l.z) l.size l.q

abbrev pub decreases-loop-q : goal.decreases-loop-q
decreases-loop-q l = l.n - l.q
