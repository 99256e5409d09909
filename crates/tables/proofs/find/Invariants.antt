-- The loop keeps `Looking g`: what is looked up and the parity of what is left of v make the whole parity.
use Rattle.tables.proofs.Looking.{Looking}
use Rattle.tables.proofs.find.Given as goal

abbrev pub invariant-loop-g : goal.invariant-loop-g
invariant-loop-g l = Looking l.t l.v l.a l.u l.g
