-- In the target's part, words below i are the product's and the others as they were, nothing else has changed, and the two counts with those of the
-- words from i on are the whole counts (`From`). The part read is the target's or lies before it, so word i of it is still what it was.
use Rattle.late.proofs.From.{From}
use Rattle.late.proofs.rows.mul_into.Given as goal

abbrev pub invariant-loop-i : goal.invariant-loop-i
invariant-loop-i l = From l.w l.d l.s l.t l.initial.x l.initial.z l.bx l.bz l.x l.z l.n l.f l.i
