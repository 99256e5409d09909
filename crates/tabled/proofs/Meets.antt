-- Where a lazy run and the rule's run (specs/Workers.antt of crate reduction) have come to the same, in pieces: if each piece keeps I and meets its
-- own, the pieces one after another do, for a run that stopped stays as it is. Assumes nothing.
use Prim.Native.Nat.{ℕ}
use native.Mathlib.Omega.{arith}
use mathlib.Core.Path.{◌≡◌, refl, sym, ap, ◌∙◌, subst}
use mathlib.Core.Bool.{Bool, true, false, cond}
use mathlib.Core.List.{List, [], ◌∷◌}
use lib.Dec.{ltb}
use lib.ListN.{length}
use Rattle.reduction.specs.Rule.{Run, multiply}
use Rattle.reduction.specs.Capacity.{Reduced, done, full}
use Rattle.reduction.specs.Workers.{and_then, through, multiply_c}
use Rattle.tabled.specs.Workers.{Meets, goes, stops, Lazy, Held, going, stopped, then_l, through_l, row_of, settle, settled, fitting}

module _ {R : Type 0} (mul : R → R → R) where
  pub meets-settled : {I : Lazy R → Type 0} {h : Held R} {r : Reduced R} → Meets mul I h r → settled mul h ≡ r
  unfolding settled
  meets-settled (goes s e q i) = ap (settled mul) e ∙ sym q
  meets-settled (stops s e q) = ap (settled mul) e ∙ sym q

  -- where a run that goes on, and one that is full, have come to
  pub meets-going : {I : Lazy R → Type 0} {h : Held R} {r : Reduced R} (L : Lazy R) → Meets mul I h r → h ≡ going L → (r ≡ done (settle mul L)) × I L
  meets-going {I} L (goes s e q i) f = let w : s ≡ L = cc in (q ∙ ap (λ x. done (settle mul x)) w, subst I w i)
  meets-going L (stops s e q) f = absurd (let z : ◌≡◌ {A = ℕ} 0 1 = cc in omega arith)

  pub meets-stopped : {I : Lazy R → Type 0} {h : Held R} {r : Reduced R} (L : Lazy R) → Meets mul I h r → h ≡ stopped L → r ≡ full L.log (row_of mul L)
  meets-stopped L (goes s e q i) f = absurd (let z : ◌≡◌ {A = ℕ} 0 1 = cc in omega arith)
  meets-stopped L (stops s e q) f = let w : s ≡ L = cc in q ∙ ap (λ (x : Lazy R). full x.log (row_of mul x)) w

  pub meets-mono : {I J : Lazy R → Type 0} {h : Held R} {r : Reduced R} → ((s : Lazy R) → I s → J s) → Meets mul I h r → Meets mul J h r
  meets-mono f (goes s e q i) = goes s e q (f s i)
  meets-mono f (stops s e q) = stops s e q

  pub meets-then : {I J : Lazy R → Type 0} {h : Held R} {r : Reduced R} (g : Lazy R → Held R) (f : Run R → Reduced R)
      → Meets mul I h r → ((s : Lazy R) → I s → Meets mul J (g s) (f (settle mul s))) → Meets mul J (then_l h g) (and_then r f)
  unfolding then_l and_then
  meets-then {I} {J} {h} {r} g f (goes s e q i) k =
      subst (λ x. Meets mul J (then_l x g) (and_then r f)) (sym e) (subst (λ x. Meets mul J (g s) (and_then x f)) (sym q) (k s i))
  meets-then g f (stops s e q) k = stops s (ap (λ x. then_l x g) e) (ap (λ x. and_then x f) q)

  pub meets-through : {I : Lazy R → Type 0} (g : ℕ → Lazy R → Held R) (f : ℕ → Run R → Reduced R)
      → ((k : ℕ) (s : Lazy R) → I s → Meets mul I (g k s) (f k (settle mul s)))
      → (ks : List ℕ) (s : Lazy R) → I s → Meets mul I (through_l g ks s) (through f ks (settle mul s))
  unfolding through_l through
  meets-through g f one [] s i = goes s refl refl i
  meets-through g f one (k ∷ ks) s i = meets-then (λ s'. through_l g ks s') (λ s'. through f ks s') (one k s i) (λ s' i'. meets-through g f one ks s' i')

-- an entry, if it fits
pub meets-fitting : {R : Type 0} (bit : R → ℕ → Bool) (mul : R → R → R) (capacity : ℕ) {I : Lazy R → Type 0} (a b : ℕ) (s s' : Lazy R)
    → settle mul s' ≡ multiply mul a b (settle mul s) → I s' → Meets mul I (fitting bit mul capacity s s') (multiply_c mul capacity a b (settle mul s))
unfolding fitting multiply_c settle
meets-fitting bit mul capacity {I} a b s s' e i = go (ltb (length s.log) capacity)
  where
    go : (x : Bool) → Meets mul I (cond x (going s') (stopped s)) (cond x (done (multiply mul a b (settle mul s))) (full s.log (row_of mul s)))
    go true = goes s' refl (ap done (sym e)) i
    go false = stops s refl refl
