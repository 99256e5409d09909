-- `matrix::mirror_block` meets its contract. Assumes nothing.
use native.Mathlib.Omega.{arith}
use Rattle.matrix.proofs.Across.{moved-block}
use Rattle.std.proofs.Common.{rules}
use Rattle.matrix.proofs.mirror_block.Goals as goal

pub returns : goal.returns
returns c =
    let p = c.requires in
    moved-block p.2 p.3 (omega (arith, p.0, p.2)) p.4 c.gather.ensures (c.turn.ensures.done (search rules)) c.scatter.ensures
