-- The items taken, before what is left, read on, are the whole list (Taking).
use Rattle.text.proofs.Taking.{Taking}
use Rattle.text.proofs.list.items.Given as goal

abbrev pub invariant-loop-n : goal.invariant-loop-n
invariant-loop-n g l = Taking g.I.Item.reads l.pairs l.s l.fn.at l.initial.out l.out l.n l.first l.at
