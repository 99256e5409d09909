-- Bytes in two digits each: those written so far, and those still to come, are all of them.
-- Assumes nothing.
use Rattle.forms.proofs.Kit.{◌≡◌, refl, sym, ap, ◌∙◌, subst, List, [], ◌∷◌, ◌++◌, append_assoc, append-nil, ℕ, ◌+◌, ◌<◌, ◌≤◌, arith, length, drop, get_or, Laid, Short}
use Rattle.std.specs.Prelude.{None, Some}
use Rattle.text.proofs.Adding.{cut, both}
use Prim.Native.Nat.{◌/◌, ◌%◌}
use lib.ListN.{drop_of_length-le}
use lib.Seq.{drop-cons}
use native.Mathlib.Numerals.{add-one}
use Rattle.text.specs.Numbers.{digits, numeral}
use Rattle.text.proofs.Writing.{size_small}
use Rattle.forms.specs.Answers.{octets_text}

-- a number below 16 has one digit
one-digit : (d : ℕ) → d < 16 → numeral 16 d ≡ digits 16 1 d
unfolding numeral
one-digit d h = ap (λ (k : ℕ). digits 16 k d) (size_small 16 20 d h)

pub two_digits : (v : ℕ) → v < 256 → numeral 16 (v / 16) ++ numeral 16 (v % 16) ≡ digits 16 2 v
two_digits v h =
    let e : v % 16 % 16 ≡ v % 16 = omega arith in
    rw (one-digit (v / 16) (omega arith), one-digit (v % 16) (omega arith), e)

-- so many bytes are written
module _ (xs o : List ℕ) (at : ℕ) where
  pub record Running (p : List ℕ) (place i : ℕ) : Type 0 where
    pub text : List ℕ
    pub is : text ++ octets_text (drop i xs) ≡ octets_text xs
    pub laid : Laid text o at p place

  pub begun : {p : List ℕ} {place : ℕ} → Laid [] o at p place → Running p place 0
  begun h = record { text = []; is = refl; laid = h }

  module _ {p : List ℕ} {place i : ℕ} (r : Running p place i) where
    further : i < length xs → r.text ++ (digits 16 2 (get_or xs i 0) ++ octets_text (drop (i + 1) xs)) ≡ octets_text xs
    further h =
        let c : drop i xs ≡ get_or xs i 0 ∷ drop (i + 1) xs = rw (add-one i) (drop-cons xs i 0 h) in
        sym (ap (λ (l : List ℕ). r.text ++ octets_text l) c) ∙ r.is

    pub onward : i < length xs → {q : List ℕ} {j : ℕ} → Laid (digits 16 2 (get_or xs i 0)) p place q j → Running q j (i + 1)
    onward h {q} {j} s =
        let w = digits 16 2 (get_or xs i 0) in
        record {
          text = r.text ++ w;
          is = append_assoc r.text w (octets_text (drop (i + 1) xs)) ∙ further h;
          laid = both r.text w r.laid q (Some j) s;
        }

    pub stopped : i < length xs → {q : List ℕ} → Short (digits 16 2 (get_or xs i 0)) p place q → Short (octets_text xs) o at q
    stopped h {q} s =
        let w = digits 16 2 (get_or xs i 0) in
        subst (λ (l : List ℕ). Short l o at q) (append_assoc r.text w (octets_text (drop (i + 1) xs)) ∙ further h)
        (cut (r.text ++ w) (octets_text (drop (i + 1) xs)) (both r.text w r.laid q None s))

    pub all : length xs ≤ i → Laid (octets_text xs) o at p place
    all h =
        let f : r.text ≡ octets_text xs =
        sym (append-nil r.text) ∙ (sym (ap (λ (l : List ℕ). r.text ++ octets_text l) (drop_of_length-le xs {i = i} h)) ∙ r.is) in
        subst (λ (l : List ℕ). Laid l o at p place) f r.laid
