-- The number of clashes and the exponent so far, with those of the words from i on, are those of the whole rows (`Adding`): of k words, the
-- length of the shortest part, past which the definition sums nothing.
use Rattle.products.proofs.RowLaws.{Adding}
use Rattle.products.proofs.mul_op_op_phase.Given as goal

abbrev pub invariant-loop-i : goal.invariant-loop-i
invariant-loop-i l = Adding l.lx l.lz l.rx l.rz l.n l.f l.i
