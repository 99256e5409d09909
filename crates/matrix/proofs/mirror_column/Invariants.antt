-- The loop keeps `Moved` to column b above block a: each block adds itself; at the diagonal the column is whole.
use Rattle.matrix.specs.Workers.{Known, Moved}
use Rattle.matrix.proofs.mirror_column.Given as goal

abbrev pub invariant-loop-a : goal.invariant-loop-a
invariant-loop-a l = Moved l.m l.v (Known l.b 0) (Known l.b l.a) l.initial.out l.out
