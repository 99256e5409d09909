-- The loop keeps `Doubled i`: i entries stand behind, and what is read is still as it was.
use Rattle.tables.specs.Workers.{Doubled}
use Rattle.tables.proofs.double.Given as goal

abbrev pub invariant-loop-i : goal.invariant-loop-i
invariant-loop-i l = Doubled l.i l.base l.o l.v l.initial.t l.t
