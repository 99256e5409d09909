-- The loop keeps `Placed first i`: the sums from first up to i stand in column a, in different rows (`one-row`).
use Rattle.matrix.specs.Workers.{Placed, item, place}
use Rattle.matrix.proofs.store.Given as goal

abbrev pub invariant-loop-i : goal.invariant-loop-i
invariant-loop-i l = Placed l.first l.i (place l.v 0 l.a) (item l.sums) l.initial.out l.out
