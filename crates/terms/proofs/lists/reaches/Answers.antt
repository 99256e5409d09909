use Rattle.terms.proofs.Scans.{below-part, above-part}
use native.Mathlib.Omega.{arith}
use Rattle.terms.proofs.lists.reaches.Goals as goal

pub returns-then-k-a : goal.returns-then-k-a
returns-then-k-a c = let a = c.args in below-part a.a a.b a.k (omega arith)

pub returns : goal.returns
returns c = let a = c.args in above-part a.a a.b a.k (omega arith)
