use Rattle.std.proofs.Common.{arith}
use Rattle.products.proofs.RowLaws.{adding-more, adding-all}
use Rattle.products.proofs.mul_op_op_phase.Goals as goal

pub loop-i-preserved : goal.loop-i-preserved
loop-i-preserved c =
    let a = c.args in
    adding-more a.lx.now a.lz.now a.rx.now a.rz.now c.add_clashes-n.result c.turn_threes-f.result c.loop-i.invariant (omega arith) c.add_clashes-n.ensures c.turn_threes-f.ensures

pub returns : goal.returns
returns c =
    let a = c.args in
    adding-all a.lx.now a.lz.now a.rx.now a.rz.now c.loop-i.invariant (omega arith) c.factor_from.ensures.0 c.factor_from.ensures.1
