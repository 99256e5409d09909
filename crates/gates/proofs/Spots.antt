-- Laws of `at`, `put`, `blank` at different places. Assumes nothing.
use mathlib.Core.Path.{◌≡◌, refl, sym, ap, ap₂, ◌∙◌}
use mathlib.Core.List.{List, [], ◌∷◌}
use Prim.Native.Nat.{ℕ, zero, suc}
use native.Mathlib.Nat.{suc_inj}
use native.Mathlib.Omega.{arith}
use lib.ListN.{length, get_or, set, length-set}
use lib.Seq.{get_or-set_same, get_or-set_other, set-get_or}
use Rattle.gates.specs.Places.{at, put, blank, Fresh, Places}

module _ {A : Type 0} where
  pub set_comm : (l : List A) (i j : ℕ) (a b : A) → (i ≡ j → ⊥) → set (set l i a) j b ≡ set (set l j b) i a
  set_comm [] i j a b h = refl
  set_comm (x ∷ l) zero zero a b h = absurd (h refl)
  set_comm (x ∷ l) zero (suc j) a b h = refl
  set_comm (x ∷ l) (suc i) zero a b h = refl
  set_comm (x ∷ l) (suc i) (suc j) a b h = ap (λ (r : List A). x ∷ r) (set_comm l i j a b (λ e. h (ap suc e)))

  pub set_twice : (l : List A) (i : ℕ) (a b : A) → set (set l i a) i b ≡ set l i b
  set_twice [] i a b = refl
  set_twice (x ∷ l) zero a b = refl
  set_twice (x ∷ l) (suc i) a b = ap (λ (r : List A). x ∷ r) (set_twice l i a b)

  -- ---- another place

  pub at_set : (d : A) (l : List A) (q : ℕ) (a : A) (qs : List ℕ) → Fresh q qs → at d (set l q a) qs ≡ at d l qs
  at_set d l q a [] f = refl
  at_set d l q a (p ∷ qs) f = ap₂ (λ (x : A) (r : List A). x ∷ r) (get_or-set_other l q p a d (λ e. f.0 (sym e))) (at_set d l q a qs f.1)

  pub put-set : (l : List A) (q : ℕ) (a : A) (qs : List ℕ) (v : List A) → Fresh q qs → put (set l q a) qs v ≡ set (put l qs v) q a
  put-set l q a [] v f = refl
  put-set l q a (p ∷ qs) [] f = refl
  put-set l q a (p ∷ qs) (x ∷ v) f = ap (λ (r : List A). set r p x) (put-set l q a qs v f.1) ∙ set_comm (put l qs v) q p a x f.0

  pub blank-set : (d : A) (l : List A) (q : ℕ) (a : A) (qs : List ℕ) → Fresh q qs → blank d (set l q a) qs ≡ set (blank d l qs) q a
  blank-set d l q a [] f = refl
  blank-set d l q a (p ∷ qs) f = ap (λ (r : List A). set r p d) (blank-set d l q a qs f.1) ∙ set_comm (blank d l qs) q p a d f.0

  pub get_or-blank : (d e : A) (l : List A) (q : ℕ) (qs : List ℕ) → Fresh q qs → get_or (blank d l qs) q e ≡ get_or l q e
  get_or-blank d e l q [] f = refl
  get_or-blank d e l q (p ∷ qs) f = get_or-set_other (blank d l qs) p q d e f.0 ∙ get_or-blank d e l q qs f.1

  -- ---- lengths

  pub length-put : (l : List A) (qs : List ℕ) (v : List A) → length (put l qs v) ≡ length l
  length-put l [] v = refl
  length-put l (p ∷ qs) [] = refl
  length-put l (p ∷ qs) (x ∷ v) = length-set (put l qs v) p x ∙ length-put l qs v

  pub length-blank : (d : A) (l : List A) (qs : List ℕ) → length (blank d l qs) ≡ length l
  length-blank d l [] = refl
  length-blank d l (p ∷ qs) = length-set (blank d l qs) p d ∙ length-blank d l qs

  pub length_at : (d : A) (l : List A) (qs : List ℕ) → length (at d l qs) ≡ length qs
  length_at d l [] = refl
  length_at d l (p ∷ qs) = ap suc (length_at d l qs)

  -- ---- what was put

  pub at-put : (d : A) (l : List A) (qs : List ℕ) (v : List A) → Places (length l) qs → length v ≡ length qs → at d (put l qs v) qs ≡ v
  at-put d l [] [] h k = refl
  at-put d l [] (x ∷ v) h k = absurd (omega arith)
  at-put d l (q ∷ qs) [] h k = absurd (omega arith)
  at-put d l (q ∷ qs) (x ∷ v) h k =
      ap₂ (λ (y : A) (r : List A). y ∷ r)
      (get_or-set_same (put l qs v) q x d (omega (arith, h.0, length-put l qs v)))
      (at_set d (put l qs v) q x qs h.1.0 ∙ at-put d l qs v h.1.1 (suc_inj k))

  pub put-at : (d : A) (l : List A) (qs : List ℕ) → put l qs (at d l qs) ≡ l
  put-at d l [] = refl
  put-at d l (q ∷ qs) = ap (λ (r : List A). set r q (get_or l q d)) (put-at d l qs) ∙ set-get_or l q d

  pub blank-put : (n : ℕ) (d : A) (l : List A) (qs : List ℕ) (v : List A) → Places n qs → blank d (put l qs v) qs ≡ blank d l qs
  blank-put n d l [] v h = refl
  blank-put n d l (q ∷ qs) [] h = refl
  blank-put n d l (q ∷ qs) (x ∷ v) h =
      ap (λ (r : List A). set r q d) (blank-set d (put l qs v) q x qs h.1.0)
      ∙ set_twice (blank d (put l qs v) qs) q x d
      ∙ ap (λ (r : List A). set r q d) (blank-put n d l qs v h.1.1)
