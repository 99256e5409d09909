use Rattle.std.proofs.Common.{arith}
use Rattle.products.proofs.RowLaws.{done_more, done_all}
use Rattle.products.proofs.mul_row.Goals as goal

pub loop-i-preserved : goal.loop-i-preserved
loop-i-preserved c =
    done_more c.requires c.add_clashes-n.result c.turn_threes-f.result c.loop-i.invariant c.loop-i-test.true c.add_clashes-n.ensures c.turn_threes-f.ensures

pub returns : goal.returns
returns c =
    done_all c.requires c.loop-i.invariant (omega arith) c.type_inv.lx c.type_inv.lz c.type_inv.rx c.type_inv.rz c.factor_from.ensures.0 c.factor_from.ensures.1
