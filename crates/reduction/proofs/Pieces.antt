-- Pieces of a run one after another: through two lists is through the one that joins them, and t stays until a pivot is done. A piece that stops on a full log
-- stays as it is, and one that goes on hands its run to the next. Assumes nothing.
use Prim.Native.Nat.{ℕ}
use mathlib.Core.Path.{◌≡◌, refl, subst}
use mathlib.Core.Bool.{Bool, not, ◌&&◌}
use mathlib.Core.List.{List, [], ◌∷◌, ◌++◌}
use lib.Dec.{eqb, ltb}
use lib.ListN.{length}
use Rattle.pauli.proofs.Bools.{cond_ind}
use Rattle.reduction.specs.Rule.{Run, multiply}
use Rattle.reduction.specs.Capacity.{Reduced, done, full}
use Rattle.reduction.specs.Workers.{and_then, through, multiply_c, turn_c, lead_c, pivot_c}

-- ---- listed, then extra

pub through-append : {R : Type 0} (f : ℕ → Run R → Reduced R) (xs ys : List ℕ) (r : Run R) → and_then (through f xs r) (λ r'. through f ys r') ≡ through f (xs ++ ys) r
unfolding through and_then
through-append {R} f [] ys r = refl
through-append {R} f (x ∷ xs) ys r = go (f x r) (λ r'. through-append f xs ys r')
  where
    go : (q : Reduced R) → ((r' : Run R) → and_then (through f xs r') (λ r''. through f ys r'') ≡ through f (xs ++ ys) r')
        → and_then (and_then q (λ r'. through f xs r')) (λ r'. through f ys r') ≡ and_then q (λ r'. through f (xs ++ ys) r')
    go (done r') h = h r'
    go (full l σ) h = refl

-- ---- t stays until a pivot is done

-- a run that goes on has come to t pivots
abbrev pub At : {R : Type 0} → ℕ → Reduced R → Type 0
At t (done r) = r.t ≡ t
At t (full l σ) = Unit {0}

then_at : {R : Type 0} {t : ℕ} (q : Reduced R) (g : Run R → Reduced R) → At t q → ((r : Run R) → r.t ≡ t → At t (g r)) → At t (and_then q g)
unfolding and_then
then_at (done r) g h k = k r h
then_at (full l σ) g h k = tt

through-at : {R : Type 0} (f : ℕ → Run R → Reduced R) → ((k : ℕ) (r : Run R) → At r.t (f k r)) → (ks : List ℕ) (r : Run R) (t : ℕ) → r.t ≡ t → At t (through f ks r)
unfolding through
through-at f h [] r t e = e
through-at f h (k ∷ ks) r t e = then_at (f k r) (λ r'. through f ks r') (subst (λ j. At j (f k r)) e (h k r)) (λ r' e'. through-at f h ks r' t e')

module _ {R : Type 0} (bit : R → ℕ → Bool) (mul : R → R → R) (room : ℕ) where
  multiply-at : (a b : ℕ) (r : Run R) → At r.t (multiply_c mul room a b r)
  unfolding multiply_c multiply
  multiply-at a b r = cond_ind (At r.t) (ltb (length r.log) room) {x = done (multiply mul a b r)} {y = full r.log r.rows} (λ _. refl) (λ _. tt)

  turn_at : (c p k : ℕ) (r : Run R) → At r.t (turn_c bit mul room c p k r)
  unfolding turn_c
  turn_at c p k r = cond_ind (At r.t) (not (eqb k p) && bit (r.rows k) c) {x = multiply_c mul room k p r} {y = done r} (λ _. multiply-at k p r) (λ _. refl)

  pub pivot-at : (all : List ℕ) (c p f : ℕ) (r : Run R) → At r.t (pivot_c bit mul room all c p f r)
  unfolding pivot_c lead_c
  pivot-at all c p f r =
      then_at (lead_c bit mul room p f r) (λ r'. through (turn_c bit mul room c p) all r')
      (cond_ind (At r.t) (eqb f p) {x = done r} {y = multiply_c mul room p f r} (λ _. refl) (λ _. multiply-at p f r))
      (λ r' e. through-at (turn_c bit mul room c p) (turn_at c p) all r' r.t e)
