-- What was fetched so far stands in front of what was there.
-- The next item goes over the place behind it (`fetch_more`).
use mathlib.Core.List.{◌++◌}
use mathlib.Core.Path.{◌≡◌}
use Prim.Native.Nat.{◌+◌, ◌*◌}
use lib.ListN.{drop}
use Rattle.pwl.specs.Bytes.{items}
use Rattle.pwl.proofs.bytes.get_list.Given as goal

abbrev pub invariant-loop-i : goal.invariant-loop-i
invariant-loop-i g l = (l.at ≡ l.from + g.T.Laid.BYTES * l.i) × (l.out ≡ items g.T.Laid.BYTES g.T.Laid.read l.i (drop l.from l.s) ++ drop l.i l.initial.out)
