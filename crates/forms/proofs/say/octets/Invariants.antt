-- So many bytes are written, each in two digits, and those still to come are the rest (Octets).
use Rattle.forms.proofs.Octets.{Running}
use Rattle.forms.proofs.say.octets.Given as goal

abbrev pub invariant-loop-b : goal.invariant-loop-b
invariant-loop-b l = Running l.xs l.fn.out l.at l.out l.end l.b-index
