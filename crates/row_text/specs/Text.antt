-- RULES 15, "The text of a row": its Paulis that are not I by rising qubit, each as its letter and the number of its qubit in decimal, one space
-- between. As bytes: 32 is the space, 88, 89, 90 are X, Y, Z. And which texts are read, and as which row. Assumes nothing.
use Rattle.std.specs.Prelude.{Bool, true, false, cond, ◌||◌, ◌&&◌, List, [], ◌∷◌, ◌++◌, ℕ, zero, suc, ◌+◌, ◌*◌, ◌-◌, eqb, drop}
use Rattle.pauli.specs.Pauli.{Pauli}
use Rattle.pauli.specs.declared.PauliMatrix.TheVariants.{I, X, Y, Z}
use Rattle.text.specs.Numbers.{numeral}

-- ---- writing

-- the Pauli at qubit q: a space, its letter, its number; nothing for I
abbrev pub spell : ℕ → Pauli → List ℕ
spell q I = []
spell q X = 32 ∷ 88 ∷ numeral 10 q
spell q Y = 32 ∷ 89 ∷ numeral 10 q
spell q Z = 32 ∷ 90 ∷ numeral 10 q

-- Paulis on the qubits from q on
abbrev pub spaced : ℕ → List Pauli → List ℕ
spaced q [] = []
spaced q (p ∷ ps) = spell q p ++ spaced (suc q) ps

-- the text of a row: without the first space
abbrev pub text_of : List Pauli → List ℕ
text_of ps = drop 1 (spaced 0 ps)

-- ---- reading: the row whose text it is

-- some row of n qubits passes a test; and a row that does
unfoldable pub any_row : ℕ → (List Pauli → Bool) → Bool
any_row zero f = f []
any_row (suc n) f =
    any_row n (λ ps. f (I ∷ ps)) || (any_row n (λ ps. f (X ∷ ps)) || (any_row n (λ ps. f (Y ∷ ps)) || any_row n (λ ps. f (Z ∷ ps))))

unfoldable pub the_row : ℕ → (List Pauli → Bool) → List Pauli
the_row zero f = []
the_row (suc n) f =
    cond (any_row n (λ ps. f (I ∷ ps))) (I ∷ the_row n (λ ps. f (I ∷ ps)))
    (cond (any_row n (λ ps. f (X ∷ ps))) (X ∷ the_row n (λ ps. f (X ∷ ps)))
    (cond (any_row n (λ ps. f (Y ∷ ps))) (Y ∷ the_row n (λ ps. f (Y ∷ ps))) (Z ∷ the_row n (λ ps. f (Z ∷ ps)))))

-- the same bytes
abbrev pub same : List ℕ → List ℕ → Bool
same [] [] = true
same [] (b ∷ t) = false
same (a ∷ s) [] = false
same (a ∷ s) (b ∷ t) = eqb a b && same s t

-- t is the text of a row of n qubits; and of which
unfoldable pub is_text : ℕ → List ℕ → Bool
is_text n t = any_row n (λ ps. same (text_of ps) t)

unfoldable pub row_of : ℕ → List ℕ → List Pauli
row_of n t = the_row n (λ ps. same (text_of ps) t)

-- ---- the length of the longest text of n qubits, n at most 10,000: a letter, a space and a digit for each, but one space less, a second digit from
-- qubit 10 on, a third from 100 on, a fourth from 1,000 on
abbrev pub longest : ℕ → ℕ
longest n = 3 * n + (n - 10) + (n - 100) + (n - 1000) - 1
