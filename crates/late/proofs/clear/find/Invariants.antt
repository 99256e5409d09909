-- a and the first place from a on are together t and the first place from t on: at a row with the bit the first place from a is 0 (`place_here`), at any other it is
-- one more than from a + 1 (`place-next`), and past the end it is 0 (`place_end`).
use mathlib.Core.Path.{◌≡◌}
use Prim.Native.Nat.{◌+◌}
use lib.ListN.{drop}
use Rattle.reduction.specs.Workers.{first_place}
use Rattle.late.specs.Workers.{seen_bit}
use Rattle.late.proofs.clear.find.Given as goal

abbrev pub invariant-loop-a : goal.invariant-loop-a
invariant-loop-a l = l.a + first_place (seen_bit l.col.w l.col.j l.col.i l.col.b.now l.owed l.col.tb.now) (drop l.a l.listed) ≡ l.t + first_place (seen_bit l.col.w l.col.j l.col.i l.col.b.now l.owed l.col.tb.now) (drop l.t l.listed)
