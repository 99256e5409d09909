-- The loop keeps `Turning i`: each bit came from the place that i rounds lead back to; after three it is turned.
use Rattle.tables.proofs.Staging.{Turning}
use Rattle.tables.proofs.stages.Given as goal

abbrev pub invariant-loop-i : goal.invariant-loop-i
invariant-loop-i l = Turning l.i l.initial.a l.a
