-- The loop keeps `Placed 0 r`: r words are written, in different rows, so at different places (`one-row`).
use Rattle.matrix.specs.Workers.{Placed, item, place}
use Rattle.matrix.proofs.scatter.Given as goal

abbrev pub invariant-loop-r : goal.invariant-loop-r
invariant-loop-r l = Placed 0 l.r (place l.v l.first l.b) (item l.c) l.initial.out l.out
