use Rattle.std.proofs.Common.{arith}
use Rattle.mat_elem.proofs.Pass.{look_none, look-more, look-all}
use Rattle.mat_elem.proofs.look.Goals as goal

pub loop-i-init : goal.loop-i-init
loop-i-init c =
    look_none c.args.x.now c.args.z.now c.requires

pub loop-i-preserved : goal.loop-i-preserved
loop-i-preserved c =
    look-more c.args.x.now c.args.z.now c.requires c.loop-i.invariant (omega arith) _ c.borrow-fall.ensures

pub returns : goal.returns
returns c =
    look-all c.args.x.now c.args.z.now c.requires c.loop-i.invariant (omega arith) c.above.ensures
