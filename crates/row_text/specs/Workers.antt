-- What inner functions ask and leave. Assumes nothing.
use Rattle.std.specs.Prelude.{◌≡◌, Bool, true, false, Option, None, Some, cond, List, [], ◌∷◌, ◌++◌, ℕ, zero, suc, ◌+◌, ◌<◌, ◌≤◌, eqb, ltb, length, get_or, drop}
use Rattle.pauli.specs.Pauli.{Pauli, has_x, has_z}
use Rattle.pauli.specs.declared.PauliMatrix.TheVariants.{I, X, Y, Z}
use Rattle.encoding.specs.Limits.{max_words, words_of}
use Rattle.encoding.specs.Words.{unpack, pack}
use Rattle.encoding.specs.Refusals.{is_on}
use Rattle.encoding.specs.Set.{Mem, count, rows_of, lay, QubitSet}
use Rattle.encoding.proofs.WordLaws.{Fit}
use Rattle.text.specs.Readers.{Got, none, got, starts}
use Rattle.text.specs.Numbers.{numeral, canonical, Stops}
use Rattle.text.specs.Lines.{marked}
use Rattle.row_text.specs.declared.parse.Named.{Named}
use Rattle.row_text.specs.Text.{spell, spaced, text_of, is_text, row_of}
use Rattle.row_text.specs.Calls.{with_row}

-- ---- writing

-- the byte of a Pauli, 0 for I; and the Pauli of a byte, I where it is no letter
abbrev pub letter : Pauli → ℕ
letter I = 0
letter X = 88
letter Y = 89
letter Z = 90

unfoldable pub letter_of : ℕ → Pauli
letter_of c = cond (eqb c 88) X (cond (eqb c 89) Y (cond (eqb c 90) Z I))

-- a letter and a number
abbrev pub short : ℕ → ℕ → List ℕ
short c q = c ∷ numeral 10 q

-- the byte of a Pauli, none for I
abbrev pub LetterIs : Pauli → Option ℕ → Type 0
LetterIs p None = p ≡ I
LetterIs p (Some c) = (q : ℕ) → spell q p ≡ 32 ∷ short c q

-- the Pauli of a byte, none where it is no letter
abbrev pub PauliIs : ℕ → Option Pauli → Type 0
PauliIs c None = is_on (letter_of c) ≡ false
PauliIs c (Some p) = (p ≡ letter_of c) × (is_on p ≡ true)

-- what is written at a place for a Pauli: with its space where something stands there already
unfoldable pub piece_at : ℕ → ℕ → Pauli → List ℕ
piece_at at q p = drop (cond (eqb at 0) 1 0) (spell q p)

-- 64 qubits from q on are I
abbrev pub NoneFrom : List ℕ → List ℕ → ℕ → Type 0
NoneFrom xs zs q = (k : ℕ) → k < 64 → get_or (unpack xs zs) (q + k) I ≡ I

-- what is to be written from qubit q on is its Pauli p, and what is to be written from qubit j on
pub record Steps (ps : List Pauli) (q : ℕ) (p : Pauli) (j : ℕ) : Type 0 where
  pub text : spaced q (drop q ps) ≡ spell q p ++ spaced j (drop j ps)
  pub on : q < j
  pub near : j ≤ q + 64

-- ---- reading

-- what stands behind a space; nothing where it does not come first
abbrev pub past : List ℕ → List ℕ
past t = cond (starts 32 t) (drop 1 t) []

-- a letter and a number of at most top, behind a space
abbrev pub paired : Pauli → Got ℕ → Got (Pauli × ℕ)
paired p none = none
paired p (got v t) = cond (is_on p) (got (p, v) t) none

unfoldable pub lettered : ℕ → List ℕ → Got (Pauli × ℕ)
lettered top [] = none
lettered top (c ∷ t) = paired (letter_of c) (canonical top t)

abbrev pub named : ℕ → List ℕ → Got (Pauli × ℕ)
named top t = marked 32 (lettered top) t

-- the letter's Pauli p and the number v were read, up to a place of s
pub record NamedTo (read : Got (Pauli × ℕ)) (s : List ℕ) (top : ℕ) (p : Pauli) (v next : ℕ) : Type 0 where
  pub is : read ≡ got (p, v) (drop next s)
  pub within : next ≤ length s
  pub low : v ≤ top

abbrev pub NamedBy : Got (Pauli × ℕ) → List ℕ → ℕ → Option Named → Type 0
NamedBy read s top None = read ≡ none
NamedBy read s top (Some r) = NamedTo read s top r.pauli r.qubit r.at

-- what is left of a text from a place on; at its start it has a space before it, if it is not empty
abbrev pub lead : List ℕ → List ℕ
lead [] = []
lead (b ∷ t) = 32 ∷ b ∷ t

unfoldable pub left : ℕ → List ℕ → List ℕ
left at s = cond (eqb at 0) (lead s) (drop at s)

-- where a letter is to stand, behind the space of what is left
abbrev pub BehindSpace : ℕ → List ℕ → Option ℕ → Type 0
BehindSpace at s None = past (left at s) ≡ []
BehindSpace at s (Some i) = (drop i s ≡ past (left at s)) × (i ≤ length s)

-- t starts with the Pauli p at qubit v, from q on and below n, and goes on with u
pub record Found (n q : ℕ) (t : List ℕ) (p : Pauli) (v : ℕ) (u : List ℕ) : Type 0 where
  pub is : t ≡ spell v p ++ u
  pub on : is_on p ≡ true
  pub low : q ≤ v
  pub high : v < n
  pub stops : Stops 10 u

-- the next Pauli of the text s, of which t is left; or t is not what is written of Paulis from q on, unless it is empty
abbrev pub NextPauli : ℕ → ℕ → List ℕ → List ℕ → Option Named → Type 0
NextPauli n q t s None = (rs : List Pauli) → q + length rs ≡ n → spaced q rs ≡ t → t ≡ []
NextPauli n q t s (Some r) = Found n q t r.pauli r.qubit (drop r.at s) × (r.at ≤ length s)

-- ps is the row whose text is s, or no row of n qubits has that text
pub data Tells (n : ℕ) (s : List ℕ) (ps : List Pauli) : Bool → Type 0 where
  a-row : length ps ≡ n → text_of ps ≡ s → Tells n s ps true
  no_row : ((qs : List Pauli) → length qs ≡ n → text_of qs ≡ s → ⊥) → Tells n s ps false

-- d times I before a list
abbrev pub blank : ℕ → List Pauli → List Pauli
blank zero l = l
blank (suc d) l = I ∷ blank d l

-- the words hold the Paulis ps
pub record Holding (w : ℕ) (ps : List Pauli) (xs zs : List ℕ) : Type 0 where
  pub x-is : xs ≡ pack has_x w ps
  pub z-is : zs ≡ pack has_z w ps

-- a qubit becomes the Pauli p, in words of 64 bits
pub record PauliSet (v : ℕ) (p : Pauli) (xs zs xs' zs' : List ℕ) : Type 0 where
  pub set : QubitSet v p xs zs xs' zs'
  pub x-fit : Fit xs'
  pub z-fit : Fit zs'

-- a text was read into words that held nothing
pub record Scanned (n : ℕ) (s xs zs : List ℕ) (ok : Bool) : Type 0 where
  pub row : List Pauli
  pub tells : Tells n s row ok
  pub holds : Holding max_words row xs zs

-- a text was read into a row's two parts, if it is one
pub record RowParsed (n : ℕ) (s xs zs xs' zs' : List ℕ) (ok : Bool) : Type 0 where
  pub told : ok ≡ is_text n s
  pub x-part : xs' ≡ cond ok (pack has_x (words_of n) (row_of n s)) xs
  pub z-part : zs' ≡ cond ok (pack has_z (words_of n) (row_of n s)) zs

-- and into row r of a set in memory
pub record SetParsed (n : ℕ) (M : Mem) (r : ℕ) (s : List ℕ) (M' : Mem) (ok : Bool) : Type 0 where
  pub told : ok ≡ is_text n s
  pub rows : M' ≡ cond ok (lay n (count M) (with_row (rows_of n M) r (row_of n s))) M

-- ---- the numbers of the two lines

abbrev pub falls_short : List Pauli → List ℕ → ℕ
falls_short ps out = cond (ltb (length out) (length (text_of ps))) 14 0

abbrev pub no_text_number : ℕ → List ℕ → ℕ
no_text_number n t = cond (is_text n t) 0 13
