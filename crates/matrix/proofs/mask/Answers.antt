-- `matrix::mask` meets its contract. Assumes nothing.
-- All ones where the 64 columns are there; else as many ones as there are columns left, by a test of all 65 numbers (`ones_bit`).
use Rattle.matrix.proofs.Adding.{mask-all, mask-some}
use Rattle.matrix.proofs.mask.Goals as goal

pub returns-then-first-m : goal.returns-then-first-m
returns-then-first-m c = mask-all _ _ c.if-first-m.true

pub returns : goal.returns
returns c = mask-some _ _ c.requires.0 c.if-first-m.false
