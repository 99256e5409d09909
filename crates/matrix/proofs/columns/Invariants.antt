-- The loop keeps `RightWhere (Down a)`: the first a columns are right from the diagonal down; there are as many as words of m bits.
use Rattle.matrix.specs.Workers.{RightWhere, Down}
use Rattle.matrix.proofs.columns.Given as goal

abbrev pub invariant-loop-a : goal.invariant-loop-a
invariant-loop-a l = RightWhere l.w l.m l.v l.x l.z (Down l.a) l.out
