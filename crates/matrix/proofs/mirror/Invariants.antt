-- The loop keeps `Moved` from the half to the columns before b: each column adds itself.
use Rattle.matrix.specs.Workers.{Known, Moved}
use Rattle.matrix.proofs.mirror.Given as goal

abbrev pub invariant-loop-b : goal.invariant-loop-b
invariant-loop-b l = Moved l.m l.v (Known 0 0) (Known l.b 0) l.initial.out l.out
