use Rattle.std.proofs.Common.{arith}
use Rattle.matrix.proofs.Adding.{adding-more}
use Rattle.matrix.proofs.add.Goals as goal

pub loop-i-preserved : goal.loop-i-preserved
loop-i-preserved c =
    adding-more c.index.result c.look.result c.loop-i.invariant (omega (arith, c.loop-i-test.true, c.requires.t_len.1)) c.index.ensures.0 c.requires.t_len.0 c.look.ensures
