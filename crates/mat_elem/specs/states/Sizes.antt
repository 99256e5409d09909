-- RULES 8.19, "the absolute values of all real and imaginary parts": how large coefficients may be so that 16 cannot arise; and, RULES 8.20, one vector
-- beside one vector. Assumes nothing.
use Rattle.std.specs.Prelude.{ℕ, zero, suc, ◌+◌, ◌*◌, ◌^◌, ◌<◌, List, [], ◌∷◌, length, ℤ, pos, Some, None, Ok, Err}
use Rattle.checked.specs.Range.{size_of}
use Rattle.mat_elem.specs.Operator.{coefficient}
use Rattle.mat_elem.specs.states.Sums.{Total, Sum, Terms, State}
use Rattle.mat_elem.specs.Sums.{Element}

-- of the first m coefficients
unfoldable pub size_to : List ℤ → List ℤ → ℕ → ℕ
size_to re im zero = 0
size_to re im (suc m) = size_to re im m + size_of (coefficient re im m)

abbrev pub terms_size : Terms → ℕ
terms_size A = size_to A.re A.im (length A.xs)

abbrev pub state_size : State → ℕ
state_size s = size_to s.re s.im (length s.words)

-- bra times ket, and that times the terms, stay below 2 to the 63
pub record Small (A : Terms) (bra ket : State) : Type 0 where
  pub without : state_size bra * state_size ket < 2 ^ 63
  pub with : state_size bra * state_size ket * terms_size A < 2 ^ 63

-- one word of coefficient 1
abbrev pub alone : ℕ → State
alone w = record { words = w ∷ []; re = pos 1 ∷ []; im = pos 0 ∷ [] }

-- the answer of the call for one bra and one ket, "no block" as zero
abbrev pub as_total : Element ℤ → Total
as_total (Ok (Some s)) = Ok s
as_total (Ok None) = Sum (pos 0) (pos 0)
as_total (Err e) = Err e
