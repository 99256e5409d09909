use Rattle.std.proofs.Common.{arith}
use Rattle.products.proofs.InPlace.{inplace-more, multiplied}
use Rattle.products.proofs.imul_row.Goals as goal

pub loop-i-preserved : goal.loop-i-preserved
loop-i-preserved c =
    inplace-more c.requires c.add_clashes-n.result c.turn_threes-f.result c.loop-i.invariant c.loop-i-test.true c.add_clashes-n.ensures c.turn_threes-f.ensures

pub returns : goal.returns
returns c =
    multiplied c.requires c.loop-i.invariant (omega arith) c.slice_known-1.given c.slice_known-2-1.given c.factor_from.ensures.0 c.factor_from.ensures.1
