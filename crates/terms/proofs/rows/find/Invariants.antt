-- i and the first place from i on are together t and the first place from t on: at a row with the bit the first place from i is 0 (`place_here`), at
-- any other it is one more than from i + 1 (`place-next`), and past the end it is 0 (`place_end`).
use Rattle.terms.specs.Workers.{bit_in, first_place}
use mathlib.Core.Path.{◌≡◌}
use Prim.Native.Nat.{◌+◌}
use lib.ListN.{drop}
use Rattle.terms.proofs.rows.find.Given as goal

abbrev pub invariant-loop-i : goal.invariant-loop-i
invariant-loop-i l = l.i + first_place (λ k. bit_in l.n l.x l.z k l.c) (drop l.i l.listed) ≡ l.t + first_place (λ k. bit_in l.n l.x l.z k l.c) (drop l.t l.listed)
