-- A line as a table has it: a name, and fields of these kinds with a space before each.
use Rattle.std.specs.Prelude.{◌≡◌, cond, List, [], ◌∷◌, ◌++◌, ℕ, ◌≤◌, ℤ, Float, length, drop}
use Rattle.text.specs.Readers.{Got, none, got, starts}
use Rattle.text.specs.Numbers.{number, Spells, integer, SpellsInteger, float, SpellsFloat}
use Rattle.text.specs.Lists.{list, SpellsList}

-- a word; a decimal number of at most top; words, decimal numbers of at most top, i32 and f64, as many as there is room for
pub data Kind : Type 0 where
  word : Kind
  one : ℕ → Kind
  words : ℕ → Kind
  numbers : ℕ → ℕ → Kind
  ints : ℕ → Kind
  floats : ℕ → Kind

abbrev pub Value : Kind → Type 0
Value word = ℕ
Value (one top) = ℕ
Value (words room) = List ℕ
Value (numbers top room) = List ℕ
Value (ints room) = List ℤ
Value (floats room) = List Float

abbrev pub read : (k : Kind) → List ℕ → Got (Value k)
read word = number 16 18446744073709551615
read (one top) = number 10 top
read (words room) = list (number 16 18446744073709551615) room
read (numbers top room) = list (number 10 top) room
read (ints room) = list (integer 2147483647) room
read (floats room) = list float room

-- ---- fields

-- a value before what is read
abbrev pub joined_by : {A B : Type 0} → A → Got B → Got (A × B)
joined_by v none = none
joined_by v (got w t) = got (v, w) t

-- one thing and then another
abbrev pub further : {A B : Type 0} → Got A → (List ℕ → Got B) → Got (A × B)
further none next = none
further (got v t) next = joined_by v (next t)

-- behind the byte c
abbrev pub marked : {A : Type 0} → ℕ → (List ℕ → Got A) → List ℕ → Got A
marked c r s = cond (starts c s) (r (drop 1 s)) none

-- behind a space
abbrev pub field : {A : Type 0} → (List ℕ → Got A) → List ℕ → Got A
field r s = marked 32 r s

-- the same of a list, which has room for so many items
abbrev pub field_of : {A : Type 0} → (ℕ → List ℕ → Got A) → ℕ → List ℕ → Got A
field_of r room s = field (r room) s

abbrev pub Values : List Kind → Type 0
Values [] = Unit {0}
Values (k ∷ ks) = Value k × Values ks

-- fields of these kinds, each behind a space
abbrev pub fields : (ks : List Kind) → List ℕ → Got (Values ks)
fields [] s = got tt s
fields (k ∷ ks) s = further (field (read k) s) (fields ks)

-- nothing stands behind it
abbrev pub last : {A : Type 0} → Got A → Got A
last none = none
last (got v []) = got v []
last (got v (c ∷ t)) = none

-- ---- which texts are read: proofs/Lines.antt has that these are, and no others

-- at most `room` items
abbrev pub SpellsRoom : {A : Type 0} → (A → List ℕ → Type 0) → ℕ → List A → List ℕ → Type 0
SpellsRoom Item room vs w = SpellsList Item vs w × (length vs ≤ room)

-- w spells a value of a kind
abbrev pub SpellsKind : (k : Kind) → Value k → List ℕ → Type 0
SpellsKind word v w = Spells 16 18446744073709551615 v w
SpellsKind (one top) v w = Spells 10 top v w
SpellsKind (words room) vs w = SpellsRoom (Spells 16 18446744073709551615) room vs w
SpellsKind (numbers top room) vs w = SpellsRoom (Spells 10 top) room vs w
SpellsKind (ints room) vs w = SpellsRoom (SpellsInteger 2147483647) room vs w
SpellsKind (floats room) vs w = SpellsRoom SpellsFloat room vs w

-- w is a space, a text and others
pub record Spaced (First Others : List ℕ → Type 0) (w : List ℕ) : Type 0 where
  pub text : List ℕ
  pub rest : List ℕ
  pub is : w ≡ 32 ∷ (text ++ rest)
  pub first : First text
  pub others : Others rest

abbrev pub SpellsFields : (ks : List Kind) → Values ks → List ℕ → Type 0
SpellsFields [] v w = w ≡ []
SpellsFields (k ∷ ks) v w = Spaced (SpellsKind k v.0) (SpellsFields ks v.1) w
