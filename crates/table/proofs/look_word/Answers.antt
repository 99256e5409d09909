use Rattle.std.proofs.Common.{arith}
use Rattle.table.proofs.Walks.{walk_more, walk-all}
use Rattle.table.proofs.look_word.Goals as goal

pub loop-done-preserved : goal.loop-done-preserved
loop-done-preserved c = walk_more c.look.result c.loop-done.invariant (omega arith) c.look.ensures

pub returns : goal.returns
returns c = walk-all c.loop-done.invariant (omega arith)
