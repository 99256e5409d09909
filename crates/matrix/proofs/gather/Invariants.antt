-- The loop keeps `Placed 0 j`: j words are written, each at its own place; past the last row a word is 0.
use Rattle.matrix.specs.Workers.{Placed, same, word_at}
use Rattle.matrix.proofs.gather.Given as goal

abbrev pub invariant-loop-j : goal.invariant-loop-j
invariant-loop-j l = Placed 0 l.j same (word_at l.b l.w l.first l.k) l.initial.c l.c
