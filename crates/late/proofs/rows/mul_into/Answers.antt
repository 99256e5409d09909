use Rattle.late.proofs.From.{from-none, from_more, from_all}
use Rattle.late.proofs.rows.mul_into.Goals as goal

pub loop-i-init : goal.loop-i-init
loop-i-init c = from-none c.requires

pub loop-i-preserved : goal.loop-i-preserved
loop-i-preserved c = from_more c.requires c.add_clashes-n.result c.turn_threes-f.result c.loop-i.invariant c.loop-i-test.true c.add_clashes-n.ensures c.turn_threes-f.ensures

pub returns : goal.returns
returns c = from_all c.requires c.loop-i.invariant c.loop-i-test.false c.slice_known-1.given c.slice_known-2-1.given c.type_inv.bx c.type_inv.bz c.factor_from.ensures.0 c.factor_from.ensures.1
