-- In the target's part, words below i are the product's and the others as they were, nothing else has changed, and the two counts with those of the
-- words from i on are the whole counts (`Inplace`). Source and target are the same or apart, so word i of both is still what it was.
use Rattle.products.proofs.InPlace.{Inplace}
use Rattle.products.proofs.imul_row.Given as goal

abbrev pub invariant-loop-i : goal.invariant-loop-i
invariant-loop-i l = Inplace l.w l.s l.t l.initial.x l.initial.z l.x l.z l.n l.f l.i
