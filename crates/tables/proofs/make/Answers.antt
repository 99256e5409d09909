use native.Mathlib.Omega.{arith}
use Rattle.tables.proofs.Beginning.{begun_all}
use Rattle.tables.proofs.make.Goals as goal

pub returns : goal.returns
returns c = begun_all c.loop-g.invariant (omega (arith, c.loop-g-test.false))
