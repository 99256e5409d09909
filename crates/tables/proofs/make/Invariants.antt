-- The loop keeps `Begun (8 g)`: g tables stand whole, and the next begins where they end.
use Prim.Native.Nat.{◌*◌}
use Rattle.tables.specs.Workers.{Begun}
use Rattle.tables.proofs.make.Given as goal

abbrev pub invariant-loop-g : goal.invariant-loop-g
invariant-loop-g l = Begun (8 * l.g) l.c l.t
