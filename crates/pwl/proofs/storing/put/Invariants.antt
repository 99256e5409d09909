-- The bytes still to come, over what is there, are all bytes over what was there: a byte that is stored goes over to what is there
-- (`byte_next`), and at the end none is to come (`byte_end`).
use mathlib.Core.Path.{◌≡◌}
use Prim.Native.Nat.{◌+◌, ◌-◌}
use Rattle.text.specs.Readers.{over}
use Rattle.pwl.specs.Bytes.{le}
use Rattle.pwl.proofs.storing.put.Given as goal

abbrev pub invariant-loop-j : goal.invariant-loop-j
invariant-loop-j l = over (le (l.k - l.j) l.r) (l.at + l.j) l.out ≡ over (le l.k l.v) l.at l.initial.out
