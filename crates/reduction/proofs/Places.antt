-- The first place of a list that passes a test: as a loop meets it, and as the rule's `first`. A test that tells a row's bit passes at the place of the first
-- row that has it. Assumes nothing.
use mathlib.Core.Path.{◌≡◌, refl, sym, ap, ◌∙◌}
use mathlib.Core.Bool.{Bool, true, false, cond}
use mathlib.Core.Option.{none, some}
use mathlib.Core.List.{List, [], ◌∷◌}
use Prim.Native.Nat.{ℕ, suc, ◌+◌, ◌≤◌, ◌<◌}
use native.Mathlib.Numerals.{add-one}
use native.Mathlib.Omega.{arith}
use lib.ListN.{length, get_or, drop, length-drop, drop_of_length-le}
use lib.Seq.{drop-cons, get_or-drop}
use Rattle.reduction.specs.Rule.{first}
use Rattle.reduction.specs.Workers.{first_place}

-- a place within the list is that of the first row found; none is found where it is the end
module _ {R : Type 0} (bit : R → ℕ → Bool) (σ : ℕ → R) (c : ℕ) (f : ℕ → Bool) where
  abbrev Tells : List ℕ → Type 0
  Tells l = (i : ℕ) → i < length l → f (get_or l i 0) ≡ bit (σ (get_or l i 0)) c

  found : (k : ℕ) (ks : List ℕ) (b : Bool) → f k ≡ b → bit (σ k) c ≡ b → cond b 0 (suc (first_place f ks)) < suc (length ks)
      → (first_place f ks < length ks → first bit σ c ks ≡ some (get_or ks (first_place f ks) 0)) → cond b (some k) (first bit σ c ks) ≡ some (get_or (k ∷ ks) (cond b 0 (suc (first_place f ks))) 0)
  found k ks true e d g ih = refl
  found k ks false e d g ih = ih (omega arith)

  pub place-some : (l : List ℕ) → Tells l → first_place f l < length l → first bit σ c l ≡ some (get_or l (first_place f l) 0)
  unfolding first_place first
  place-some [] h g = absurd (omega arith)
  place-some (k ∷ ks) h g =
      ap (λ b. cond b (some k) (first bit σ c ks)) (sym (h 0 (omega arith)))
      ∙ found k ks (f k) refl (sym (h 0 (omega arith))) g (place-some ks (λ i l. h (suc i) (omega arith)))

  missed : (k : ℕ) (ks : List ℕ) (b : Bool) → suc (length ks) ≤ cond b 0 (suc (first_place f ks)) → (length ks ≤ first_place f ks → first bit σ c ks ≡ none) → cond b (some k) (first bit σ c ks) ≡ none
  missed k ks true g ih = absurd (omega arith)
  missed k ks false g ih = ih (omega arith)

  pub place_none : (l : List ℕ) → Tells l → length l ≤ first_place f l → first bit σ c l ≡ none
  unfolding first_place first
  place_none [] h g = refl
  place_none (k ∷ ks) h g =
      ap (λ b. cond b (some k) (first bit σ c ks)) (sym (h 0 (omega arith))) ∙ missed k ks (f k) g (place_none ks (λ i l. h (suc i) (omega arith)))

-- the place that a search from t on gives
module _ {R : Type 0} (bit : R → ℕ → Bool) (σ : ℕ → R) (c : ℕ) (f : ℕ → Bool) (l : List ℕ) (t r : ℕ) (ht : t ≤ length l)
    (tells : (i : ℕ) → i < length l → f (get_or l i 0) ≡ bit (σ (get_or l i 0)) c) (e : r ≡ t + first_place f (drop t l)) where
  told : (i : ℕ) → i < length (drop t l) → f (get_or (drop t l) i 0) ≡ bit (σ (get_or (drop t l) i 0)) c
  told i h =
      let at : get_or (drop t l) i 0 ≡ get_or l (t + i) 0 = get_or-drop t l i 0 in
      ap f at ∙ tells (t + i) (omega (arith, length-drop t l)) ∙ ap (λ k. bit (σ k) c) (sym at)

  pub from_some : r < length l → first bit σ c (drop t l) ≡ some (get_or l r 0)
  from_some h =
      place-some bit σ c f (drop t l) told (omega (arith, length-drop t l))
      ∙ ap (λ k. some k) (get_or-drop t l (first_place f (drop t l)) 0 ∙ ap (λ j. get_or l j 0) (sym e))

  pub from-none : length l ≤ r → first bit σ c (drop t l) ≡ none
  from-none h = place_none bit σ c f (drop t l) told (omega (arith, length-drop t l))

module _ (f : ℕ → Bool) (l : List ℕ) (i : ℕ) where
  pub place_here : i < length l → f (get_or l i 0) ≡ true → first_place f (drop i l) ≡ 0
  unfolding first_place
  place_here h e = rw (drop-cons l i 0 h, e)

  pub place-next : i < length l → f (get_or l i 0) ≡ false → first_place f (drop i l) ≡ suc (first_place f (drop (i + 1) l))
  unfolding first_place
  place-next h e = rw (add-one i, drop-cons l i 0 h, e)

  pub place_end : length l ≤ i → first_place f (drop i l) ≡ 0
  unfolding first_place
  place_end h = ap (first_place f) (drop_of_length-le l h)
