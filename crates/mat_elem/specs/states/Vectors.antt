-- RULES 8.18, "the bra's vector, conjugated, times the operator's matrix times the ket's vector": the vector of a state, and what is promised of the call.
-- Assumes nothing.
use Rattle.std.specs.Prelude.{◌≡◌, ℕ, true, length, ℤ, slice_index}
use Rattle.pauli.specs.Gauss.{Gauss, ◌⊕◌, ◌⊗◌, g0}
use Rattle.pauli.specs.Matrix.{Vector, basis, apply, inner}
use Rattle.checked.specs.Range.{gauss}
use Rattle.mat_elem.specs.Sums.{sum_over}
use Rattle.mat_elem.specs.Operator.{state_of, operator}
use Rattle.mat_elem.specs.states.Sums.{Total, Sum, Terms, State, coefficient_at, total_of}

-- the sum over the words of coefficient times basis vector; a word that is there twice adds twice
unfoldable pub vector_of : ℕ → State → Vector
vector_of n s r = sum_over (λ i. true) ◌⊕◌ g0 (λ i. coefficient_at s i ⊗ basis (state_of n (slice_index s.words i)) r) (length s.words)

abbrev pub between : ℕ → Terms → State → State → Gauss
between n A bra ket = inner n (vector_of n bra) (apply n (operator n A.xs A.zs A.re A.im) (vector_of n ket))

-- the whole of the call: its answer, and what a sum means
pub record MatElem (n : ℕ) (A : Terms) (bra ket : State) (r : Total) : Type 0 where
  pub answer : r ≡ total_of n A bra ket
  pub meaning : (u v : ℤ) → r ≡ Sum u v → gauss u v ≡ between n A bra ket
