-- The lines of docs/CALLS.md behind their names, with room for so many words and bytes: the kinds of their fields in order.
use Rattle.std.specs.Prelude.{Bool, true, false, cond, List, [], ◌∷◌, ℕ, eqb}
use Rattle.pauli.specs.declared.PauliMatrix.{PauliMatrix}
use Rattle.pauli.specs.declared.PauliMatrix.TheVariants.{I, X, Y, Z}
use Rattle.text.specs.Readers.{Got, none, got}
use Rattle.text.specs.Numbers.{number}
use Rattle.text.specs.Lines.{Kind, one, words, numbers, ints, floats, field, marked, further}

-- one thing and then another
abbrev pub then : {A B : Type 0} → (List ℕ → Got A) → (List ℕ → Got B) → List ℕ → Got (A × B)
then f g s = further (f s) g

-- any number
abbrev pub any : Kind
any = one 18446744073709551615

-- X Z P
abbrev pub set_kinds : ℕ → ℕ → ℕ → List Kind
set_kinds i j k = words i ∷ words j ∷ words k ∷ []

-- n m X Z P
abbrev pub rows_kinds : ℕ → ℕ → ℕ → List Kind
rows_kinds i j k = any ∷ any ∷ set_kinds i j k

-- n X Z and the parts RE IM of terms, whole or as the bits of an f64
abbrev pub whole_kinds : ℕ → ℕ → ℕ → ℕ → List Kind
whole_kinds i j k l = any ∷ words i ∷ words j ∷ ints k ∷ ints l ∷ []

abbrev pub float_kinds : ℕ → ℕ → ℕ → ℕ → List Kind
float_kinds i j k l = any ∷ words i ∷ words j ∷ floats k ∷ floats l ∷ []

-- the words and the parts of a state
abbrev pub state_kinds : ℕ → ℕ → ℕ → List Kind
state_kinds i j k = words i ∷ ints j ∷ ints k ∷ []

-- order listed extra
abbrev pub list_kinds : ℕ → ℕ → ℕ → List Kind
list_kinds a b c = numbers 65535 a ∷ numbers 65535 b ∷ numbers 65535 c ∷ []

-- a Pauli's letter
abbrev pub pauli_or : Bool → PauliMatrix → Got PauliMatrix → List ℕ → Got PauliMatrix
pauli_or true l g t = got l t
pauli_or false l g t = g

unfoldable pub pauli_of : ℕ → List ℕ → Got PauliMatrix
pauli_of c t = pauli_or (eqb c 73) I (pauli_or (eqb c 88) X (pauli_or (eqb c 89) Y (pauli_or (eqb c 90) Z none t) t) t) t

abbrev pub letter : List ℕ → Got PauliMatrix
letter [] = none
letter (c ∷ t) = pauli_of c t

-- the rest of the line behind one space, whatever it is; nothing where the line ends before the space
abbrev pub rest : List ℕ → Got (List ℕ)
rest [] = got [] []
rest (c ∷ t) = cond (eqb c 32) (got t []) none

-- lx,lz,lp,lc, each of at most so much
abbrev pub lengths : ℕ → ℕ → ℕ → ℕ → List ℕ → Got (ℕ × (ℕ × (ℕ × ℕ)))
lengths i j k m = then (field (number 10 i)) (then (marked 44 (number 10 j)) (then (marked 44 (number 10 k)) (marked 44 (number 10 m))))
