-- `late::column::begin` meets its contract. With room in the block nothing is done; else every row pays, which leaves what the state stood for,
-- and a block without pivots begins. Assumes nothing.
use Rattle.late.proofs.Columning.{begin-none, begin-paid}
use Rattle.late.proofs.column.begin.Goals as goal

pub returns-then-s-lt-BLOCK : goal.returns-then-s-lt-BLOCK
returns-then-s-lt-BLOCK c = begin-none c.requires c.if-s-lt-BLOCK.true

pub pay_all-requires : goal.pay_all-requires
pay_all-requires c = c.requires.owing

pub returns : goal.returns
returns c = begin-paid c.requires c.pay_all.ensures
