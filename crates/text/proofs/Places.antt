-- The first byte at a place, and what is read there of a field, an integer, a float and a canonical number: each by the number's own reading.
-- Each lemma is one way through the code. Assumes nothing.
use Rattle.text.proofs.Kit.{◌≡◌, sym, ap, ◌∙◌, true, false, not, ◌&&◌, false≢true, Option, None, Some, List, ◌∷◌, ℕ, ◌+◌, ◌*◌, ◌<◌, ◌≤◌, arith, add-one, lt-ltb, le-ltb, length, get_or, drop, drop_of_length-le, drop-drop, drop-cons}
use native.Mathlib.Decide.{dec_lt}
use lib.IntN.{pos}
use Rattle.text.specs.Readers.{Got, none, starts, ReadTo, Reads}
use Rattle.text.specs.Numbers.{digit_of, number, no_digit, canonical, octet, minus, integer, float_of, float}
use Rattle.text.specs.Lines.{marked}
use Rattle.text.specs.Workers.{Passed}

-- a byte that comes first is there
pub there : (c : ℕ) (s : List ℕ) (at : ℕ) → starts c (drop at s) ≡ true → at < length s
there c s at e = go (dec_lt at (length s))
  where
    go : Dec (at < length s) → at < length s
    go (yes h) = h
    go (no h) = absurd (false≢true (sym (ap (starts c) (drop_of_length-le s {i = at} (omega arith))) ∙ e))

module _ (c : ℕ) (s : List ℕ) (at : ℕ) where
  pub passes : starts c (drop at s) ≡ true → Passed c s at (at + 1)
  passes h = record { is = h; rest = sym (drop-drop 1 at s); within = omega (arith, there c s at h) }

-- ---- fields

module _ {A : Type 0} (read : List ℕ → Got A) (c : ℕ) (s : List ℕ) (at : ℕ) where
  pub no_mark : starts c (drop at s) ≡ false → marked c read (drop at s) ≡ none
  no_mark h = rw h

  pub marked-past : {i : ℕ} → Passed c s at i → (r : Option (A × ℕ)) → Reads read s i r → Reads (marked c read) s at r
  marked-past p None h = rw p.is (ap read (sym p.rest) ∙ h)
  marked-past p (Some r) h = record { is = rw p.is (ap read (sym p.rest) ∙ h.is); within = h.within }

-- ---- a byte by its two digits

module _ (s : List ℕ) (at : ℕ) where
  first_digit : at < length s → drop at s ≡ get_or s at 0 ∷ drop (at + 1) s
  first_digit h = rw (add-one at) (drop-cons s at 0 h)

  -- the line ends before the second
  pub octet-short : length s ≤ at + 1 → octet (drop at s) ≡ none
  unfolding octet
  octet-short k = go (dec_lt at (length s))
    where
      go : Dec (at < length s) → octet (drop at s) ≡ none
      go (yes h) = rw (first_digit h, drop_of_length-le s {i = at + 1} k)
      go (no h) = rw (drop_of_length-le s {i = at} (omega arith))

  module _ (h : at + 1 < length s) where
    two : drop at s ≡ get_or s at 0 ∷ get_or s (at + 1) 0 ∷ drop (at + 2) s
    two =
        let e : at + 2 ≡ at + 1 + 1 = omega arith in
        first_digit (omega arith) ∙ ap (λ (t : List ℕ). get_or s at 0 ∷ t) (rw (e, add-one (at + 1)) (drop-cons s (at + 1) 0 h))

    pub no-high : 16 ≤ digit_of (get_or s at 0) → octet (drop at s) ≡ none
    unfolding octet
    no-high k = rw (two, le-ltb (digit_of (get_or s at 0)) 16 k)

    pub no-low : {a : ℕ} → a ≡ digit_of (get_or s at 0) → a < 16 → 16 ≤ digit_of (get_or s (at + 1) 0) → octet (drop at s) ≡ none
    unfolding octet
    no-low {a} e i k = rw (two, ← e, lt-ltb a 16 i, le-ltb (digit_of (get_or s (at + 1) 0)) 16 k)

    pub two_digits : {a b : ℕ} → a ≡ digit_of (get_or s at 0) → a < 16 → b ≡ digit_of (get_or s (at + 1) 0) → b < 16 → ReadTo octet s at (a * 16 + b) (at + 2)
    unfolding octet
    two_digits {a} {b} e i f j = record { is = rw (two, ← e, lt-ltb a 16 i, ← f, lt-ltb b 16 j); within = omega arith }

-- ---- no zero before other digits

module _ (top : ℕ) (s : List ℕ) (at : ℕ) where
  pub not_led : (starts 48 (drop at s) && not (no_digit (drop 1 (drop at s)))) ≡ false → (r : Option (ℕ × ℕ)) → Reads (number 10 top) s at r → Reads (canonical top) s at r
  unfolding canonical
  not_led h None k = rw h k
  not_led h (Some r) k = record { is = rw h k.is; within = k.within }

-- ---- integers and floats

module _ (top : ℕ) (s : List ℕ) (at : ℕ) where
  pub plain-none : starts 45 (drop at s) ≡ false → number 10 top (drop at s) ≡ none → integer top (drop at s) ≡ none
  unfolding integer
  plain-none h k = rw (h, k)

  pub plain : starts 45 (drop at s) ≡ false → {v next : ℕ} → ReadTo (number 10 top) s at v next → ReadTo (integer top) s at (pos v) next
  unfolding integer
  plain h r = record { is = rw (h, r.is); within = r.within }

  pub minus-none : {i : ℕ} → Passed 45 s at i → number 10 (top + 1) (drop i s) ≡ none → integer top (drop at s) ≡ none
  unfolding integer
  minus-none p k = rw (p.is, ← p.rest, k)

  pub with-minus : {i : ℕ} → Passed 45 s at i → {v next : ℕ} → ReadTo (number 10 (top + 1)) s i v next → ReadTo (integer top) s at (minus v) next
  unfolding integer
  with-minus p r = record { is = rw (p.is, ← p.rest, r.is); within = r.within }

module _ (s : List ℕ) (at : ℕ) where
  pub float-none : number 16 18446744073709551615 (drop at s) ≡ none → float (drop at s) ≡ none
  unfolding float
  float-none h = rw h

  pub as-float : {v next : ℕ} → ReadTo (number 16 18446744073709551615) s at v next → ReadTo float s at (float_of v) next
  unfolding float
  as-float r = record { is = rw r.is; within = r.within }
