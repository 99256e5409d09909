-- What is left, read on behind the digits passed, is the whole, read from the start (Reading).
use Rattle.text.proofs.Reading.{Reading}
use Rattle.text.proofs.read.number.Given as goal

abbrev pub invariant-loop-i : goal.invariant-loop-i
invariant-loop-i l = Reading l.base l.most l.s l.at l.v l.i
