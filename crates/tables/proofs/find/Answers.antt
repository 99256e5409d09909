use native.Mathlib.Omega.{arith}
use Rattle.tables.proofs.Looking.{looking-more, looking-all}
use Rattle.tables.proofs.find.Goals as goal

pub loop-g-preserved : goal.loop-g-preserved
loop-g-preserved c = looking-more c.loop-g.invariant c.loop-g-test.true

pub returns : goal.returns
returns c = looking-all c.loop-g.invariant (omega arith)
