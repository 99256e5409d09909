-- The loop keeps `Summed k`: k words of every row are summed.
use Rattle.matrix.specs.Workers.{Summed}
use Rattle.matrix.proofs.pairs.Given as goal

abbrev pub invariant-loop-k : goal.invariant-loop-k
invariant-loop-k l = Summed l.w l.m l.first l.x l.z l.k l.sums
