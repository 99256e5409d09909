use native.Mathlib.Omega.{arith}
use Rattle.verdict.proofs.take.Goals as goal

pub returns-then-s-gt-MOST : goal.returns-then-s-gt-MOST
returns-then-s-gt-MOST c = omega (arith, c.if-s-gt-MOST.true)

pub returns : goal.returns
returns c = (omega (arith, c.if-s-gt-MOST.false), c.read.ensures)
