use native.Mathlib.Omega.{arith}
use Rattle.tables.proofs.Staging.{turning-none, turning-more, turning-all}
use Rattle.tables.proofs.stages.Goals as goal

pub loop-i-init : goal.loop-i-init
loop-i-init c = turning-none _ c.requires.0

pub loop-i-preserved : goal.loop-i-preserved
loop-i-preserved c =
    turning-more c.loop-i.invariant c.loop-i-test.true c.stage.ensures c.stage-in-loop-i.ensures

pub returns : goal.returns
returns c = turning-all c.loop-i.invariant (omega arith)
