use Rattle.std.proofs.Common.{arith, refl, ◌∙◌}
use borrow.Rule.Slice.PartMut.{mid_len}
use Rattle.matrix.proofs.Writing.{filled}
use Rattle.matrix.proofs.start.Goals as goal

pub returns : goal.returns
returns c =
    let a = c.args in
    let l = mid_len a.first a.m a.sums.now c.requires.1 in
    filled a.first a.m a.v a.sums.now c.fill.new.self c.requires.0 c.requires.1 (c.fill.ensures.len ∙ l) (λ k h. c.fill.ensures.clones k 0 (omega (arith, h, l)) refl)
