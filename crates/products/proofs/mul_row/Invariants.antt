-- Words below i are the product's and the others as they were, and the two counts with those of the words from i on are the whole counts (`Done`):
-- a word more moves its clashes and its threes from what is to come to what is counted.
use Rattle.products.proofs.RowLaws.{Done}
use Rattle.products.proofs.mul_row.Given as goal

abbrev pub invariant-loop-i : goal.invariant-loop-i
invariant-loop-i l = Done l.lx l.lz l.rx l.rz l.initial.ox l.initial.oz l.ox l.oz l.n l.f l.i
