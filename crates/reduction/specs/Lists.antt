-- Lists of row numbers and of column numbers, as RULES 1.10 to 1.12 and 5.8 speak of them: a number stands in a list, listed rows stand "each once",
-- "the number of different rows in the two lists taken together". Assumes nothing.
use Rattle.std.specs.Prelude.{ℕ, suc, ◌≡◌, ◌⊎◌, Bool, true, false, cond, not, ◌&&◌, ◌||◌, List, [], ◌∷◌, eqb}
unfoldable pub use Rattle.pauli.specs.Lists.{every}

-- the number stands in the list; and the test of it
abbrev pub In : ℕ → List ℕ → Type 0
In k [] = ⊥
In k (x ∷ xs) = (k ≡ x) ⊎ In k xs

unfoldable pub has : ℕ → List ℕ → Bool
has k [] = false
has k (x ∷ xs) = eqb k x || has k xs

-- each number stands in the list once; and the test of it
abbrev pub Distinct : List ℕ → Type 0
Distinct [] = Unit {0}
Distinct (x ∷ xs) = (In x xs → ⊥) × Distinct xs

unfoldable pub distinct : List ℕ → Bool
distinct [] = true
distinct (x ∷ xs) = not (has x xs) && distinct xs

-- how many different numbers stand in the list
unfoldable pub different : List ℕ → ℕ
different [] = 0
different (x ∷ xs) = cond (has x xs) (different xs) (suc (different xs))

-- Q holds of each element
abbrev pub All : {A : Type 0} → (A → Type 0) → List A → Type 0
All Q [] = Unit {0}
All Q (e ∷ es) = Q e × All Q es
