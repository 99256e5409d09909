use Rattle.tables.proofs.Staging.{staged-more}
use Rattle.tables.proofs.stage.Goals as goal

pub loop-p-preserved : goal.loop-p-preserved
loop-p-preserved c =
    staged-more c.low.result c.high.result c.loop-p.invariant c.loop-p-test.true c.low.ensures c.high.ensures
