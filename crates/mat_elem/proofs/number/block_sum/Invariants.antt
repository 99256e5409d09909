-- Invariant: s is the sum from `first` up to i, it and all sums before it are sound, and its parts are what a sum of i parts can be (`Summed`).
-- One more term is one more addition; a sum that is not sound refuses the call whatever comes after it.
use Rattle.mat_elem.proofs.Span.{Summed}
use Rattle.mat_elem.proofs.number.block_sum.Given as goal

abbrev pub invariant-loop-i : goal.invariant-loop-i
invariant-loop-i g l = Summed g.T.Number.arithmetic g.T.Number.reaches l.terms.x.now l.terms.z.now l.terms.re.now l.terms.im.now l.ket l.first l.last l.i l.s
