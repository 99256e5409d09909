-- Of the state, words below i are the exclusive or with X and the others as they were; the exponent so far with that of the words from i on is the
-- whole, mod 4 (`Turned`).
use Rattle.products.proofs.ActLaws.{Turned}
use Rattle.products.proofs.act_row.Given as goal

abbrev pub invariant-loop-i : goal.invariant-loop-i
invariant-loop-i l = Turned l.lx l.lz l.initial.st l.st l.e l.i
