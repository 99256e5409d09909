-- The loop keeps `Staged p`: p pairs of rows have become pairs; each turn writes two places that no other turn writes.
use Rattle.tables.specs.Workers.{Staged}
use Rattle.tables.proofs.stage.Given as goal

abbrev pub invariant-loop-p : goal.invariant-loop-p
invariant-loop-p l = Staged l.p l.s l.a l.b
