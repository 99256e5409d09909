-- Lists that hold nothing but one element from n on, and what is packed: it goes by the elements, and those that pack to nothing may be cut off at the end.
-- So where the bits at n and above are zero, the whole words and the first n qubits say the same. Assumes nothing.
use mathlib.Core.Path.{◌≡◌, refl, sym, ap, ap₂, ◌∙◌}
use mathlib.Core.Bool.{Bool, false}
use mathlib.Core.List.{List, [], ◌∷◌}
use Prim.Native.Nat.{ℕ, zero, suc, ◌+◌, ◌*◌, ◌≤◌, ◌<◌}
use native.Mathlib.Decide.{dec_lt}
use native.Mathlib.Omega.{arith}
use lib.ListN.{length, get_or, take, drop, length-take, get_or-eq_default}
use lib.Seq.{get_or-take, get_or-drop}
use Rattle.pauli.specs.Pauli.{Pauli, total, each}
use Rattle.pauli.specs.declared.PauliMatrix.TheVariants.{I}
use Rattle.encoding.specs.Words.{bit, unpack, join, pack}
use Rattle.encoding.specs.Refusals.{some}
use Rattle.encoding.proofs.Scan.{some-none, some-never}

-- nothing but d
abbrev pub Only : {A : Type 0} → A → List A → Type 0
Only d l = (k : ℕ) → get_or l k d ≡ d

-- the bits at n and above are zero
abbrev pub Clean : ℕ → List ℕ → List ℕ → Type 0
Clean n xs zs = Only I (drop n (unpack xs zs))

-- a test that d alone fails
module _ {A : Type 0} (f : A → Bool) (d : A) where
  pub only_of : ((a : A) → f a ≡ false → a ≡ d) → (l : List A) → some f l ≡ false → Only d l
  only_of g l e k = go (dec_lt k (length l))
    where
      go : Dec (k < length l) → get_or l k d ≡ d
      go (yes h) = g (get_or l k d) (some-none f d l e k h)
      go (no h) = get_or-eq_default l d (omega arith)

  pub of-only : f d ≡ false → (l : List A) → Only d l → some f l ≡ false
  of-only e l h = some-never f d l (λ k _. ap f (h k) ∙ e)

-- ---- what is packed

module _ {A : Type 0} (f : A → Bool) (d : A) (f0 : f d ≡ false) where
  join-same : (ps qs : List A) → ((k : ℕ) → get_or ps k d ≡ get_or qs k d) → join f ps ≡ join f qs
  unfolding join
  join-same [] [] h = refl
  join-same [] (q ∷ qs) h = ap₂ (λ (n : ℕ) (b : Bool). n * 2 + bit b) (join-same [] qs (λ k. h (suc k))) (sym f0 ∙ ap f (h 0))
  join-same (p ∷ ps) [] h = ap₂ (λ (n : ℕ) (b : Bool). n * 2 + bit b) (join-same ps [] (λ k. h (suc k))) (ap f (h 0) ∙ f0)
  join-same (p ∷ ps) (q ∷ qs) h = ap₂ (λ (n : ℕ) (b : Bool). n * 2 + bit b) (join-same ps qs (λ k. h (suc k))) (ap f (h 0))

  same-take : (n : ℕ) (ps qs : List A) → ((k : ℕ) → get_or ps k d ≡ get_or qs k d) → (k : ℕ) → get_or (take n ps) k d ≡ get_or (take n qs) k d
  same-take n ps qs h k = go (dec_lt k n)
    where
      out : (l : List A) → n ≤ k → get_or (take n l) k d ≡ d
      out l i = get_or-eq_default (take n l) d (omega (arith, length-take n l))

      go : Dec (k < n) → get_or (take n ps) k d ≡ get_or (take n qs) k d
      go (yes l) = get_or-take n ps k d l ∙ h k ∙ sym (get_or-take n qs k d l)
      go (no l) = out ps (omega arith) ∙ sym (out qs (omega arith))

  pack-same : (w : ℕ) (ps qs : List A) → ((k : ℕ) → get_or ps k d ≡ get_or qs k d) → pack f w ps ≡ pack f w qs
  unfolding pack
  pack-same zero ps qs h = refl
  pack-same (suc w) ps qs h =
      ap₂ (λ (n : ℕ) (l : List ℕ). n ∷ l) (join-same (take 64 ps) (take 64 qs) (same-take 64 ps qs h))
      (pack-same w (drop 64 ps) (drop 64 qs) (λ k. get_or-drop 64 ps k d ∙ h (64 + k) ∙ sym (get_or-drop 64 qs k d)))

  cut-same : (n : ℕ) (l : List A) → Only d (drop n l) → (k : ℕ) → get_or (take n l) k d ≡ get_or l k d
  cut-same zero l h k = sym (h k)
  cut-same (suc n) [] h k = refl
  cut-same (suc n) (p ∷ l) h zero = refl
  cut-same (suc n) (p ∷ l) h (suc k) = cut-same n l h k

  -- the first n say all
  pub pack-cut : (w n : ℕ) (l : List A) → Only d (drop n l) → pack f w (take n l) ≡ pack f w l
  pack-cut w n l h = pack-same w (take n l) l (cut-same n l h)

-- ---- two lists, element by element, that hold only a and b from n on

module _ {A B C : Type 0} (f : A → B → C) (a : A) (b : B) (c : C) (e : f a b ≡ c) where
  pub each-only : (n : ℕ) (as' : List A) (bs : List B) → Only a (drop n as') → Only b (drop n bs) → Only c (drop n (each f as' bs))
  each-only zero [] bs h g k = refl
  each-only zero (p ∷ ps) [] h g k = refl
  each-only zero (p ∷ ps) (q ∷ qs) h g zero = ap₂ f (h 0) (g 0) ∙ e
  each-only zero (p ∷ ps) (q ∷ qs) h g (suc k) = each-only zero ps qs (λ j. h (suc j)) (λ j. g (suc j)) k
  each-only (suc n) [] bs h g k = refl
  each-only (suc n) (p ∷ ps) [] h g k = refl
  each-only (suc n) (p ∷ ps) (q ∷ qs) h g k = each-only n ps qs h g k

-- sums of what is 0 at I
module _ {B : Type 0} (v : Pauli → B → ℕ) (none : (b : B) → v I b ≡ 0) where
  pub total-take : (n : ℕ) (a : List Pauli) (b : List B) → Only I (drop n a) → total v a b ≡ total v (take n a) (take n b)
  total-take zero [] b f = refl
  total-take zero (p ∷ a) [] f = refl
  total-take zero (p ∷ a) (q ∷ b) f = ap₂ ◌+◌ (ap (λ (r : Pauli). v r q) (f 0) ∙ none q) (total-take zero a b (λ j. f (suc j)))
  total-take (suc n) [] b f = refl
  total-take (suc n) (p ∷ a) [] f = refl
  total-take (suc n) (p ∷ a) (q ∷ b) f = ap (λ (k : ℕ). v p q + k) (total-take n a b f)
