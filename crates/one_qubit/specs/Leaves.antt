-- RULES 3.3, 3.4 and 4.17: one bit of a run of words, as a leaf finds it, and qubit q of row r in the words of a set of n qubits. Assumes nothing.
use Rattle.std.specs.Prelude.{Bool, cond, List, ℕ, ◌+◌, ◌*◌, ◌/◌, ◌%◌, eqb, get_or, set}
use Rattle.pauli.specs.Pauli.{Pauli, of_bits, has_x, has_z}
use Rattle.pauli.specs.Row.{Row}
use Rattle.encoding.specs.Limits.{words_of}
use Rattle.encoding.specs.Words.{bit_at, with_bit}
use Rattle.encoding.proofs.Odd.{xorᵇ}

-- the run with its bit q, 64 to a word, turned where b holds; past its end nothing has changed
unfoldable pub with_turned : List ℕ → ℕ → Bool → List ℕ
with_turned xs q b = set xs (q / 64) (with_bit (get_or xs (q / 64) 0) (q % 64) (xorᵇ (bit_at xs (q / 64) (q % 64)) b))

-- all words of a set as one run of qubits, 64 to a word and w words to a row: where qubit q of row r stands in it
abbrev pub place_of : ℕ → ℕ → ℕ → ℕ
place_of n r q = r * words_of n * 64 + q

-- ---- over rows

-- the Pauli with its x turned where a holds, and its z where b does
abbrev pub turned_pauli : Pauli → Bool → Bool → Pauli
turned_pauli p a b = of_bits (xorᵇ (has_x p) a) (xorᵇ (has_z p) b)

-- the row with the Pauli p at qubit q
abbrev pub with_pauli : ℕ → Pauli → Row → Row
with_pauli q p x = record { ps = set x.ps q p; p = x.p }

-- the rows, row r changed by f
unfoldable pub at_row : (ℕ → Row) → ℕ → (Row → Row) → ℕ → Row
at_row σ r f k = cond (eqb k r) (f (σ k)) (σ k)
