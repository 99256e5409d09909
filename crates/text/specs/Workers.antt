-- What inner functions ask and leave.
use Rattle.std.specs.Prelude.{◌≡◌, true, false, Option, None, Some, List, ℕ, ◌+◌, ◌<◌, ◌≤◌, length, drop}
use Rattle.text.specs.Readers.{starts}
use Rattle.text.specs.Numbers.{digit_of}

-- the byte c stands at a place, and i is behind it
pub record Passed (c : ℕ) (s : List ℕ) (at i : ℕ) : Type 0 where
  pub is : starts c (drop at s) ≡ true
  pub rest : drop i s ≡ drop 1 (drop at s)
  pub within : i ≤ length s

-- the place behind the byte c, if it stands at a place
abbrev pub Passes : ℕ → List ℕ → ℕ → Option ℕ → Type 0
Passes c s at None = starts c (drop at s) ≡ false
Passes c s at (Some i) = Passed c s at i

-- the digit of a byte in a base, if it is one
abbrev pub DigitIn : ℕ → ℕ → Option ℕ → Type 0
DigitIn base c None = base ≤ digit_of c
DigitIn base c (Some d) = (d ≡ digit_of c) × (d < base)

-- the place behind n bytes, if they have room in `len` from a place on
abbrev pub Room : ℕ → ℕ → ℕ → Option ℕ → Type 0
Room n len at None = len < at + n
Room n len at (Some next) = (at + n ≤ len) × (next ≡ at + n)
