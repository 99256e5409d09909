-- The commutation matrix of a set's rows by its bits, from the words as they lie: m rows of w words in xs and zs. Assumes nothing.
use Rattle.std.specs.Prelude.{◌≡◌, Bool, true, false, ◌&&◌, List, ℕ, zero, suc, ◌+◌, ◌*◌, ◌<◌, eqb, leb, ltb, length, get_or}
use Rattle.encoding.specs.Limits.{max_rows, max_words, words_of}
use Rattle.encoding.proofs.Odd.{xorᵇ}
use Rattle.tables.specs.Tables.{word_bit, dot}

-- whether f holds at an odd number of the numbers below k
unfoldable pub parity : ℕ → (ℕ → Bool) → Bool
parity zero f = false
parity (suc k) f = xorᵇ (parity k f) (f k)

-- whether word k of rows i and j has an odd number of clashes
abbrev pub clashing : ℕ → List ℕ → List ℕ → ℕ → ℕ → ℕ → Bool
clashing w xs zs i j k =
    xorᵇ (dot 64 (get_or xs (i * w + k) 0) (get_or zs (j * w + k) 0)) (dot 64 (get_or zs (i * w + k) 0) (get_or xs (j * w + k) 0))

-- bit j of row i, from k words of each row: there is a row j, and the number of clashes is even
abbrev pub agree : ℕ → ℕ → List ℕ → List ℕ → ℕ → ℕ → ℕ → Bool
agree m w xs zs k i j = xorᵇ (ltb j m) (parity k (clashing w xs zs i j))

-- the words are as many as m rows of w words have, and those of the matrix as many as it has, within the limits
abbrev pub sized : ℕ → ℕ → ℕ → ℕ → ℕ → Bool
sized w m x z o = leb w max_words && (leb m max_rows && ((eqb x (m * w) && eqb z (m * w)) && eqb o (m * words_of m)))

-- fill: the matrix, of m rows of v words; where the sizes do not fit, nothing is done
pub record Filled (w m v : ℕ) (xs zs out out' : List ℕ) : Type 0 where
  pub done : sized w m (length xs) (length zs) (length out) ≡ true
      → (i a j : ℕ) → i < m → a < v → j < 64 → word_bit (get_or out' (i * v + a) 0) j ≡ agree m w xs zs w i (a * 64 + j)
  pub kept : sized w m (length xs) (length zs) (length out) ≡ false → out' ≡ out
