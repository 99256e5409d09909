-- No row below r has a bit at n or above.
use mathlib.Core.Path.{◌≡◌}
use Prim.Native.Nat.{◌+◌, ◌*◌}
use lib.ListN.{drop}
use Rattle.pwl.specs.Bytes.{nums}
use mathlib.Core.Bool.{false}
use Rattle.encoding.specs.Refusals.{some_below}
use Rattle.encoding.proofs.Spare.{high}
use Rattle.pwl.proofs.testing.bad_bits.Given as goal

abbrev pub invariant-loop-r : goal.invariant-loop-r
invariant-loop-r l = some_below l.r (high l.n l.w (nums 8 l.q (drop l.at l.s)) (nums 8 l.q (drop (l.at + 8 * l.q) l.s))) ≡ false
