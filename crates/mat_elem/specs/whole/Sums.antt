-- RULES 8, "Matrix elements", in whole numbers: what a term adds, the sum over the block, and what the call answers. Sums are exact. Assumes nothing.
use Rattle.std.specs.Prelude.{◌≡◌, ℕ, Bool, List, length, ℤ, pos, ◌+ℤ◌, neg_ℤ, bit_xor, slice_index, slice_index_or, Some, None, Ok, Err}
use Rattle.pauli.specs.Gauss.{Gauss, g0}
use Rattle.encoding.specs.Ranks.{by_rank}
use Rattle.mat_elem.specs.Terms.{term_lines, in_block, has_a_block}
use Rattle.mat_elem.specs.Sums.{Element, Sum, NoBlock, Refused, exponent_of, turned, sum_over, one_of}
use Rattle.mat_elem.specs.Operator.{state_of, operator}
use Rattle.checked.specs.declared.Complex.{Complex}

abbrev pub complex : ℤ → ℤ → Complex ℤ
complex a b = record { re = a; im = b }

-- c times i to the k
abbrev pub turned_by : ℕ → Complex ℤ → Complex ℤ
turned_by k c = complex (turned neg_ℤ k c.re c.im).0 (turned neg_ℤ k c.re c.im).1

abbrev pub plus : Complex ℤ → Complex ℤ → Complex ℤ
plus a b = complex (a.re +ℤ b.re) (a.im +ℤ b.im)

-- what term i adds: its coefficient times i to the exponent of its action on the ket
abbrev pub term_at : List ℕ → List ℕ → List ℤ → List ℤ → ℕ → ℕ → Complex ℤ
term_at xs zs re im ket i = turned_by (exponent_of (slice_index xs i) (slice_index zs i) ket) (complex (slice_index_or re i (pos 0)) (slice_index_or im i (pos 0)))

-- the sum over the block of t
abbrev pub block_sum : List ℕ → List ℕ → List ℤ → List ℤ → ℕ → ℕ → Complex ℤ
block_sum xs zs re im t ket = sum_over (in_block xs t) plus (complex (pos 0) (pos 0)) (term_at xs zs re im ket) (length xs)

-- the table's number and the values of each case: the complex sum has two values, no block none, a refusal its number
abbrev pub element : ℕ → Bool → Complex ℤ → Element ℤ
element k block s = one_of Refused NoBlock (Sum s.re s.im) k block

unfoldable pub element_of : ℕ → List ℕ → List ℕ → List ℤ → List ℤ → ℕ → ℕ → Element ℤ
element_of n xs zs re im bra ket =
    element (by_rank (term_lines n xs zs (length re) (length im) bra ket)) (has_a_block xs (bit_xor bra ket)) (block_sum xs zs re im (bit_xor bra ket) ket)

-- the number that an answer stands for; no block stands for zero
abbrev pub value_of : Element ℤ → Gauss
value_of (Ok (Some s)) = record { re = s.re; im = s.im }
value_of (Ok None) = g0
value_of (Err e) = g0

-- the whole of the call: its answer, and that this, where nothing is refused, is the entry of the operator's matrix between bra and ket
pub record MatElem (n : ℕ) (xs zs : List ℕ) (re im : List ℤ) (bra ket : ℕ) (r : Element ℤ) : Type 0 where
  pub answer : r ≡ element_of n xs zs re im bra ket
  pub entry : by_rank (term_lines n xs zs (length re) (length im) bra ket) ≡ 0 → value_of r ≡ operator n xs zs re im (state_of n bra) (state_of n ket)
