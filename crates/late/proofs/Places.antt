-- The place that a search from t on gives, as the loop meets it. Assumes nothing.
use mathlib.Core.Path.{◌≡◌}
use mathlib.Core.Bool.{Bool, true}
use mathlib.Core.List.{List}
use Prim.Native.Nat.{ℕ, ◌+◌, ◌≤◌, ◌<◌}
use native.Mathlib.Omega.{arith}
use lib.ListN.{length, get_or, drop}
use Rattle.std.specs.Prelude.{Some, None}
use Rattle.reduction.specs.Workers.{first_place}
use Rattle.reduction.proofs.Places.{place_here}
use Rattle.late.specs.Workers.{place_from}

module _ (f : ℕ → Bool) (t : ℕ) (l : List ℕ) where
  pub from_is : {i : ℕ} → place_from f t l ≡ Some i → (i ≡ t + first_place f (drop t l)) × (i < length l)
  from_is e = grind arith

  pub from_past : place_from f t l ≡ None → length l ≤ t + first_place f (drop t l)
  from_past e = grind arith

  pub from_at : {i : ℕ} → i + first_place f (drop i l) ≡ t + first_place f (drop t l) → i < length l → f (get_or l i 0) ≡ true → Some i ≡ place_from f t l
  from_at {i} e h q =
      let z : first_place f (drop i l) ≡ 0 = place_here f l i h q in
      grind arith

  pub from_end : {i : ℕ} → i + first_place f (drop i l) ≡ t + first_place f (drop t l) → length l ≤ i → None ≡ place_from f t l
  from_end {i} e h = grind arith
