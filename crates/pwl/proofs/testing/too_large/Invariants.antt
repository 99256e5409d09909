-- That some number from place i on is too large is that some number of the list is: number i is (`large_hit`), or it can be passed
-- over (`large_more`).
use mathlib.Core.Path.{◌≡◌}
use lib.ListN.{drop}
use Rattle.pwl.specs.Bytes.{nums}
use Rattle.encoding.specs.Refusals.{some, too_large}
use Rattle.pwl.proofs.testing.too_large.Given as goal

abbrev pub invariant-loop-i : goal.invariant-loop-i
invariant-loop-i l = some (too_large l.limit) (drop l.i (nums 2 l.count (drop l.at l.s))) ≡ some (too_large l.limit) (nums 2 l.count (drop l.at l.s))
