use native.Mathlib.Omega.{arith}
use mathlib.Core.Path.{refl}
use Rattle.std.proofs.Common.{rules}
use Rattle.verdict.proofs.read_input.Goals as goal

pub loop-done-init : goal.loop-done-init
loop-done-init c = (omega arith, refl)

pub loop-done-preserved : goal.loop-done-preserved
loop-done-preserved c = (search rules, search rules)
