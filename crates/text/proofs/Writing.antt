-- The writers' loops. Digits are laid from the last to the first: the digits still to come, before those that are there, are all the digits.
-- A count goes on by one for each division. Assumes nothing.
use Rattle.text.proofs.Kit.{◌≡◌, refl, ◌∙◌, None, Some, List, [], ◌∷◌, ◌++◌, append_assoc, ℕ, zero, suc, ◌+◌, ◌/◌, ◌<◌, ◌≤◌, arith, lt-ltb, le-ltb, length, drop, set, length-append, length-set, take-append-drop, drop-cons}
use lib.Seq.{take-set-le, drop-set-lt, get_or-set_same}
use Rattle.text.specs.Readers.{over, Wrote}
use Rattle.text.specs.Numbers.{digits, size, numeral}
use Rattle.text.proofs.Numbers.{length_digits}

-- ---- how many

pub size_small : (b f w : ℕ) → w < b → size b f w ≡ 1
size_small b zero w h = refl
size_small b (suc f) w h = rw (lt-ltb w b h)

pub size-more : (b f g w : ℕ) → f ≡ suc g → b ≤ w → size b f w ≡ suc (size b g (w / b))
size-more b f g w e k = rw (e, le-ltb w b k)

pub length-numeral : (b v : ℕ) → length (numeral b v) ≡ size b 20 v
unfolding numeral
length-numeral b v = length_digits b (size b 20 v) v

-- ---- a text over bytes

pub over_none : (at : ℕ) (o : List ℕ) → over [] at o ≡ o
over_none at o = let e : at + 0 ≡ at = omega arith in rw e (take-append-drop at o)

pub over_last : (l : List ℕ) (g at : ℕ) (o : List ℕ) → at + length l < length o → over (l ++ (g ∷ [])) at o ≡ over l at (set o (at + length l) g)
over_last l g at o h =
    let p = set o (at + length l) g in
    let k : at + length l < length p = omega (arith, length-set o (at + length l) g) in
    let e : drop (at + length l) p ≡ g ∷ drop (suc (at + length l)) o =
    drop-cons p (at + length l) 0 k
    ∙ rw (get_or-set_same o (at + length l) g 0 h, drop-set-lt (suc (at + length l)) o (at + length l) g (omega arith)) in
    let n : at + length (l ++ (g ∷ [])) ≡ suc (at + length l) = omega (arith, length-append l (g ∷ [])) in
    rw (e, take-set-le at o (at + length l) g (omega arith), n, append_assoc l (g ∷ []) (drop (suc (at + length l)) o))

-- n bytes laid over those from a place on, where they have room
module _ (w o : List ℕ) (at : ℕ) {n : ℕ} (e : length w ≡ n) where
  pub no_room : length o < at + n → Wrote w o at o None
  no_room h = (omega (arith, e), refl)

  pub laid : at + n ≤ length o → {p : List ℕ} → p ≡ over w at o → {next : ℕ} → next ≡ at + n → Wrote w o at p (Some next)
  laid h b k = record { room = omega (arith, e); bytes = b; place = omega (arith, e, k) }

-- ---- the loop over digits

-- the digits still to come, before what is there, are all the digits
abbrev pub Laying : ℕ → List ℕ → ℕ → List ℕ → ℕ → ℕ → Type 0
Laying b o v p w i = digits b i w ++ drop i p ≡ digits b (length o) v
