-- Numbers as text, and text as numbers. A line's number has digits of its base, one at least and no more than `places`, zeros first if it
-- likes; `canonical` takes none before other digits.
use Rattle.std.specs.Prelude.{◌≡◌, Bool, true, false, cond, not, ◌&&◌, List, [], ◌∷◌, ◌++◌, length, drop, ℕ, zero, suc, ◌+◌, ◌*◌, ◌-◌, ◌/◌, ◌%◌, ◌<◌, ◌≤◌, eqb, ltb, leb, ℤ, pos, negsuc, neg_ℤ, Float}
use Rattle.std.specs.Float.{nan, binary64}
use Rattle.std.specs.Float.Ieee.{eq, of_bits, to_bits}
use Rattle.text.specs.Readers.{Got, none, got, starts, mapped}

-- ---- writing

-- the byte of a digit: `0` to `9`, `a` to `f`
unfoldable pub glyph : ℕ → ℕ
glyph d = cond (ltb d 10) (48 + d) (87 + d)

-- the last k digits of v in base b
abbrev pub digits : ℕ → ℕ → ℕ → List ℕ
digits b zero v = []
digits b (suc k) v = digits b k (v / b) ++ (glyph (v % b) ∷ [])

-- how many digits v has, where f divisions by b are enough to tell
abbrev pub size : ℕ → ℕ → ℕ → ℕ
size b zero v = 1
size b (suc f) v = cond (ltb v b) 1 (suc (size b f (v / b)))

-- a number of at most 21 digits
unfoldable pub numeral : ℕ → ℕ → List ℕ
numeral b v = digits b (size b 20 v) v

-- ---- reading

-- the digit of a byte; 16 where it is none
unfoldable pub digit_of : ℕ → ℕ
digit_of c = cond (ltb c 48) 16 (cond (leb c 57) (c - 48) (cond (ltb c 97) 16 (cond (leb c 102) (c - 87) 16)))

-- the most digits of a number: as many as the largest u64 has, 16 in hexadecimal and 20 in decimal
abbrev pub places : ℕ → ℕ
places b = cond (eqb b 16) 16 20

-- a digit d behind digits that make v: a place is left for it, and the number stays within top
abbrev pub takes : ℕ → ℕ → ℕ → ℕ → ℕ → Bool
takes b top left v d = ltb 0 left && leb (v * b + d) top

-- where the digits end; a number has one at least
abbrev pub ended : Bool → ℕ → List ℕ → Got ℕ
ended true v t = none
ended false v t = got v t

-- reading on behind digits that make v, with so many places left
unfoldable pub further : ℕ → ℕ → Bool → ℕ → ℕ → List ℕ → Got ℕ
further b top first left v [] = ended first v []
further b top first left v (c ∷ t) =
    cond (ltb (digit_of c) b)
    (cond (takes b top left v (digit_of c)) (further b top false (left - 1) (v * b + digit_of c) t) none)
    (ended first v (c ∷ t))

-- a number of at most top
abbrev pub number : ℕ → ℕ → List ℕ → Got ℕ
number b top s = further b top true (places b) 0 s

-- ---- which texts are read: proofs/Numbers.antt has that these are, and no others

-- the number that digits make, behind those that make v
abbrev pub worth : ℕ → ℕ → List ℕ → ℕ
worth b v [] = v
worth b v (c ∷ t) = worth b (v * b + digit_of c) t

abbrev pub Digits : ℕ → List ℕ → Type 0
Digits b [] = Unit {0}
Digits b (c ∷ t) = (digit_of c < b) × Digits b t

-- w spells v: digits of base b, one to `places` of them, that make v, and v is at most top
pub record Spells (b top v : ℕ) (w : List ℕ) : Type 0 where
  pub all : Digits b w
  pub some : 0 < length w
  pub few : length w ≤ places b
  pub makes : worth b 0 w ≡ v
  pub within : v ≤ top

-- no digit of base b comes first
abbrev pub Stops : ℕ → List ℕ → Type 0
Stops b [] = Unit {0}
Stops b (c ∷ t) = ltb (digit_of c) b ≡ false

-- ---- one text for each number

-- no decimal digit comes first
abbrev pub no_digit : List ℕ → Bool
no_digit [] = true
no_digit (c ∷ t) = leb 10 (digit_of c)

-- a decimal number of at most top, in which no zero comes before another digit
unfoldable pub canonical : ℕ → List ℕ → Got ℕ
canonical top s = cond (starts 48 s && not (no_digit (drop 1 s))) none (number 10 top s)

-- ---- bytes

-- a byte, by two digits in hexadecimal; whatever stands behind them
unfoldable pub octet : List ℕ → Got ℕ
octet [] = none
octet (c ∷ []) = none
octet (c ∷ d ∷ t) = cond (ltb (digit_of c) 16) (cond (ltb (digit_of d) 16) (got (digit_of c * 16 + digit_of d) t) none) none

-- ---- signed

abbrev pub integral : ℤ → List ℕ
integral (pos n) = numeral 10 n
integral (negsuc n) = 45 ∷ numeral 10 (suc n)

abbrev pub minus : ℕ → ℤ
minus n = neg_ℤ (pos n)

-- an integer from - top - 1 to top; digits of 0 may have a minus too
unfoldable pub integer : ℕ → List ℕ → Got ℤ
integer top s = cond (starts 45 s) (mapped minus (number 10 (top + 1) (drop 1 s))) (mapped pos (number 10 top s))

pub data SpellsInteger (top : ℕ) (z : ℤ) (w : List ℕ) : Type 0 where
  plain : (n : ℕ) → z ≡ pos n → Spells 10 top n w → SpellsInteger top z w
  behind-minus : (n : ℕ) (u : List ℕ) → z ≡ minus n → w ≡ 45 ∷ u → Spells 10 (top + 1) n u → SpellsInteger top z w

-- ---- floats, by their bits

-- the float of a pattern; every pattern of a NaN is the one NaN
unfoldable pub float_of : ℕ → Float
float_of n = cond (leb (n % 9223372036854775808) 9218868437227405312) (of_bits binary64 n) nan

unfoldable pub float : List ℕ → Got Float
float s = mapped float_of (number 16 18446744073709551615 s)

pub record SpellsFloat (x : Float) (w : List ℕ) : Type 0 where
  pub bits : ℕ
  pub is : x ≡ float_of bits
  pub spells : Spells 16 18446744073709551615 bits w

-- the bits of an f64; of a NaN, which alone is not equal to itself, those of the quiet one
abbrev pub pattern : Float → ℕ
pattern x = cond (eq x x) (to_bits binary64 x) 9221120237041090560
