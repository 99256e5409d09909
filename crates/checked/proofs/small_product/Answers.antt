use mir.Facts.{to_z-of_z, sfits_widen}
use mir.Syntax.{w64}
use Rattle.checked.proofs.Small.{small-fits}
use Rattle.checked.proofs.small_product.Goals as goal

pub overflow_mul-result : goal.overflow_mul-result
overflow_mul-result c =
    let p = rw (to_z-of_z c.ranges.a) at c.from.ensures in
    let q = rw (to_z-of_z c.ranges.b) at c.from-2.ensures in
    rw (p, q, to_z-of_z (sfits_widen {w' = w64} tt c.ranges.a), to_z-of_z (sfits_widen {w' = w64} tt c.ranges.b))
    (small-fits c.args.a c.args.b c.ranges.a c.ranges.b)

pub returns : goal.returns
returns c =
    let p = rw (to_z-of_z c.ranges.a) at c.from.ensures in
    let q = rw (to_z-of_z c.ranges.b) at c.from-2.ensures in
    rw (p, q, to_z-of_z (sfits_widen {w' = w64} tt c.ranges.a), to_z-of_z (sfits_widen {w' = w64} tt c.ranges.b), to_z-of_z (small-fits c.args.a c.args.b c.ranges.a c.ranges.b))
