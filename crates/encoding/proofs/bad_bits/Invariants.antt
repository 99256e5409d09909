-- No row below r has a bit at n or above.
use mathlib.Core.Bool.{false}
use Rattle.encoding.specs.Refusals.{some_below}
use Rattle.encoding.proofs.Spare.{high}
use mathlib.Core.Path.{◌≡◌}
use Rattle.encoding.proofs.bad_bits.Given as goal

abbrev pub invariant-loop-r : goal.invariant-loop-r
invariant-loop-r l = some_below l.r (high l.n l.w l.x l.z) ≡ false
