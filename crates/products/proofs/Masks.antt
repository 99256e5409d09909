-- A masked word: what `&`, `|` and `!` make of some words. Each bit of it is made of the words' bits at that place, so the count of its
-- ones is a sum over the places. Assumes nothing.
use Rattle.std.proofs.Common.{◌≡◌, ℕ, zero, suc, ◌+◌, ◌-◌, ◌*◌, ◌/◌, ◌^◌, ◌<◌, Bool, true, false, not, ◌&&◌, ◌||◌, T, eqb, List, [], ◌∷◌, map, length, get_or, sym, refl, ap, ◌∙◌, ap₂, pow-suc, mul-zero, mul-add, arith, eqb→eq}
use native.Mathlib.Nat.{suc_inj}
use lib.Arith.{le-zero}
use lib.Pow.{ones_sub-lt}
use lib.Bits.{bit_and, bit_or, bit_xor, and_lt, or_lt, xor_lt}
use lib.Count.{ones, ones_step, ones-le}
use lib.ListN.{get_or-map, length-map}
use Rattle.encoding.specs.Words.{odd, bit}
use Rattle.encoding.proofs.Odd.{xorᵇ}
use Rattle.pauli.proofs.Bools.{T-left, T-right}
use Rattle.encoding.proofs.Odd.{bit-odd, and-odd, and-half, or-odd, or-half, xor-odd, xor-half, not-odd, not-half}

-- a mask over words: word number k, or one made of others
pub data Mask : Type 0 where
  var : ℕ → Mask
  inv : Mask → Mask
  both either differ : Mask → Mask → Mask

abbrev pub halves : List ℕ → List ℕ
halves ws = map (λ (w : ℕ). w / 2) ws

abbrev pub odds : List ℕ → List Bool
odds ws = map odd ws

-- the masked word, of d bits
abbrev pub word_of : ℕ → List ℕ → Mask → ℕ
word_of d ws (var k) = get_or ws k 0
word_of d ws (inv m) = (2 ^ d - 1) - word_of d ws m
word_of d ws (both m n) = bit_and (word_of d ws m) (word_of d ws n)
word_of d ws (either m n) = bit_or (word_of d ws m) (word_of d ws n)
word_of d ws (differ m n) = bit_xor (word_of d ws m) (word_of d ws n)

-- one bit of it
abbrev pub bit_of : List Bool → Mask → Bool
bit_of bs (var k) = get_or bs k false
bit_of bs (inv m) = not (bit_of bs m)
bit_of bs (both m n) = bit_of bs m && bit_of bs n
bit_of bs (either m n) = bit_of bs m || bit_of bs n
bit_of bs (differ m n) = xorᵇ (bit_of bs m) (bit_of bs n)

abbrev pub Below : ℕ → List ℕ → Type 0
Below d ws = (k : ℕ) → get_or ws k 0 < 2 ^ d

pub word_lt : (d : ℕ) (ws : List ℕ) (m : Mask) → Below d ws → word_of d ws m < 2 ^ d
word_lt d ws (var k) h = h k
word_lt d ws (inv m) h = ones_sub-lt d (word_of d ws m)
word_lt d ws (both m n) h = and_lt d (word_of d ws m) (word_of d ws n) (word_lt d ws m h) (word_lt d ws n h)
word_lt d ws (either m n) h = or_lt d (word_of d ws m) (word_of d ws n) (word_lt d ws m h) (word_lt d ws n h)
word_lt d ws (differ m n) h = xor_lt d (word_of d ws m) (word_of d ws n) (word_lt d ws m h) (word_lt d ws n h)

half-below : (d : ℕ) (ws : List ℕ) → Below (suc d) ws → Below d (halves ws)
half-below d ws h k = rw (get_or-map (λ (w : ℕ). w / 2) ws k 0) (omega (arith, h k, pow-suc 2 d))

low : (d : ℕ) (ws : List ℕ) (m : Mask) → Below (suc d) ws → odd (word_of (suc d) ws m) ≡ bit_of (odds ws) m
low d ws (var k) h = sym (get_or-map odd ws k 0)
low d ws (inv m) h = not-odd d (word_of (suc d) ws m) (word_lt (suc d) ws m h) ∙ ap not (low d ws m h)
low d ws (both m n) h = and-odd (word_of (suc d) ws m) (word_of (suc d) ws n) ∙ ap₂ ◌&&◌ (low d ws m h) (low d ws n h)
low d ws (either m n) h = or-odd (word_of (suc d) ws m) (word_of (suc d) ws n) ∙ ap₂ ◌||◌ (low d ws m h) (low d ws n h)
low d ws (differ m n) h = xor-odd (word_of (suc d) ws m) (word_of (suc d) ws n) ∙ ap₂ xorᵇ (low d ws m h) (low d ws n h)

high : (d : ℕ) (ws : List ℕ) (m : Mask) → Below (suc d) ws → word_of (suc d) ws m / 2 ≡ word_of d (halves ws) m
high d ws (var k) h = sym (get_or-map (λ (w : ℕ). w / 2) ws k 0)
high d ws (inv m) h = not-half d (word_of (suc d) ws m) (word_lt (suc d) ws m h) ∙ ap (λ (x : ℕ). (2 ^ d - 1) - x) (high d ws m h)
high d ws (both m n) h = and-half (word_of (suc d) ws m) (word_of (suc d) ws n) ∙ ap₂ bit_and (high d ws m h) (high d ws n h)
high d ws (either m n) h = or-half (word_of (suc d) ws m) (word_of (suc d) ws n) ∙ ap₂ bit_or (high d ws m h) (high d ws n h)
high d ws (differ m n) h = xor-half (word_of (suc d) ws m) (word_of (suc d) ws n) ∙ ap₂ bit_xor (high d ws m h) (high d ws n h)

-- masks with weights: what the code sums, and what one place adds to it
abbrev pub counted : ℕ → List ℕ → List (ℕ × Mask) → ℕ
counted d ws [] = 0
counted d ws (m ∷ ms) = m.0 * ones (word_of d ws m.1) + counted d ws ms

abbrev pub place : List Bool → List (ℕ × Mask) → ℕ
place bs [] = 0
place bs (m ∷ ms) = m.0 * bit (bit_of bs m.1) + place bs ms

one_more : (d : ℕ) (ws : List ℕ) (m : Mask) → Below (suc d) ws
    → ones (word_of (suc d) ws m) ≡ bit (bit_of (odds ws) m) + ones (word_of d (halves ws) m)
one_more d ws m h =
    ones_step (word_of (suc d) ws m) ∙ ap₂ ◌+◌ (bit-odd (word_of (suc d) ws m) ∙ ap bit (low d ws m h)) (ap ones (high d ws m h))

counted_step : (d : ℕ) (ws : List ℕ) (ms : List (ℕ × Mask)) → Below (suc d) ws
    → counted (suc d) ws ms ≡ place (odds ws) ms + counted d (halves ws) ms
counted_step d ws [] h = refl
counted_step d ws (m ∷ ms) h =
    omega (
      arith,
      ap (λ (n : ℕ). m.0 * n) (one_more d ws m.1 h) ∙ mul-add m.0 (bit (bit_of (odds ws) m.1)) (ones (word_of d (halves ws) m.1)),
      counted_step d ws ms h,
    )

counted_none : (ws : List ℕ) (ms : List (ℕ × Mask)) → Below 0 ws → counted 0 ws ms ≡ 0
counted_none ws [] h = refl
counted_none ws (m ∷ ms) h =
    ap₂ (λ (a b : ℕ). m.0 * a + b) (le-zero (ones-le 0 (word_of 0 ws m.1) (word_lt 0 ws m.1 h))) (counted_none ws ms h)
    ∙ omega (arith, mul-zero m.0)

-- the sum over d places of a value of the words' bits there
unfoldable pub places : ℕ → (List Bool → ℕ) → List ℕ → ℕ
places zero v ws = 0
places (suc d) v ws = v (odds ws) + places d v (halves ws)

-- a test at each list of n bits
abbrev pub every_l : ℕ → (List Bool → Bool) → Bool
every_l zero f = f []
every_l (suc n) f = every_l n (λ bs. f (false ∷ bs)) && every_l n (λ bs. f (true ∷ bs))

at_l : (n : ℕ) (f : List Bool → Bool) → T (every_l n f) → (bs : List Bool) → length bs ≡ n → T (f bs)
at_l zero f t [] e = t
at_l zero f t (b ∷ bs) e = absurd (omega arith)
at_l (suc n) f t [] e = absurd (omega arith)
at_l (suc n) f t (false ∷ bs) e = at_l n (λ bs. f (false ∷ bs)) (T-left (every_l n (λ bs. f (false ∷ bs))) (every_l n (λ bs. f (true ∷ bs))) t) bs (suc_inj e)
at_l (suc n) f t (true ∷ bs) e = at_l n (λ bs. f (true ∷ bs)) (T-right (every_l n (λ bs. f (false ∷ bs))) (every_l n (λ bs. f (true ∷ bs))) t) bs (suc_inj e)

-- THE LAW: where the masks add up to v at one place, which a test shows, their counts add up to the sum of v over the places
pub counts : (ms : List (ℕ × Mask)) (v : List Bool → ℕ) (n : ℕ) → T (every_l n (λ bs. eqb (place bs ms) (v bs)))
    → (d : ℕ) (ws : List ℕ) → length ws ≡ n → Below d ws → counted d ws ms ≡ places d v ws
unfolding places
counts ms v n t zero ws e h = counted_none ws ms h
counts ms v n t (suc d) ws e h =
    counted_step d ws ms h
    ∙ ap₂ ◌+◌
    (eqb→eq (place (odds ws) ms) (v (odds ws)) (at_l n (λ bs. eqb (place bs ms) (v bs)) t (odds ws) (length-map ws odd ∙ e)))
    (counts ms v n t d (halves ws) (length-map ws (λ (w : ℕ). w / 2) ∙ e) (half-below d ws h))
