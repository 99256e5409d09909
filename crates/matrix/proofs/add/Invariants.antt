-- The loop keeps `Adding i`: the sums below row i have the parities more, the others are as they were.
use Rattle.matrix.proofs.Adding.{Adding}
use Rattle.matrix.proofs.add.Given as goal

abbrev pub invariant-loop-i : goal.invariant-loop-i
invariant-loop-i l = Adding l.t l.a l.w l.first l.k l.initial.sums l.sums l.i
