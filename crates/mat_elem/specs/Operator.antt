-- RULES 8, "Matrix elements", and 2.1: the matrix of the whole operator on n qubits. Assumes nothing.
use Rattle.std.specs.Prelude.{ℕ, Bool, true, List, length, take, ℤ, pos, slice_index, slice_index_or}
use Rattle.pauli.specs.Gauss.{Gauss, ◌⊕◌, ◌⊗◌, g0}
use Rattle.pauli.specs.Matrix.{Matrix, matrix}
use Rattle.encoding.specs.Words.{word, bits}
use Rattle.mat_elem.specs.Sums.{sum_over}

-- the matrix of the term (x, z), and the basis state of a word, on n qubits
abbrev pub term_matrix : ℕ → ℕ → ℕ → Matrix
term_matrix n x z = matrix (take n (word 64 x z))

abbrev pub state_of : ℕ → ℕ → List Bool
state_of n s = take n (bits 64 s)

-- coefficient i
abbrev pub coefficient : List ℤ → List ℤ → ℕ → Gauss
coefficient re im i = record { re = slice_index_or re i (pos 0); im = slice_index_or im i (pos 0) }

-- the sum over all terms, in the block or not, of coefficient times the matrix of the term
unfoldable pub operator : ℕ → List ℕ → List ℕ → List ℤ → List ℤ → Matrix
operator n xs zs re im r c = sum_over (λ i. true) ◌⊕◌ g0 (λ i. coefficient re im i ⊗ term_matrix n (slice_index xs i) (slice_index zs i) r c) (length xs)
