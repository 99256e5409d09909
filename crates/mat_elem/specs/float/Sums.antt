-- RULES 8, "Matrix elements", in floats: what a term adds, the sum over the block as a fold of additions over the logic's account of IEEE 754, the
-- lines 11 and 12 of RULES 9.4, and what the call answers. Assumes nothing.
use Rattle.std.specs.Prelude.{ℕ, suc, Bool, false, not, ◌&&◌, ◌||◌, List, [], ◌∷◌, ◌++◌, length, pos, bit_xor, slice_index, slice_index_or, Float}
use Rattle.std.specs.Float.{nan, fin, binary64}
use Rattle.std.specs.Float.Ieee.{add, neg}
use Rattle.std.specs.Float.Ieee.Scale.{finite}
use Rattle.encoding.specs.Refusals.{some, some_below}
use Rattle.encoding.specs.Ranks.{TableLine, line, by_rank}
use Rattle.mat_elem.specs.Terms.{term_lines, in_block, has_a_block}
use Rattle.mat_elem.specs.Sums.{Element, Sum, NoBlock, Refused, exponent_of, turned, sum_over, one_of}
use Rattle.checked.specs.declared.Complex.{Complex}

abbrev pub complex : Float → Float → Complex Float
complex a b = record { re = a; im = b }

-- c times i to the k
abbrev pub turned_by : ℕ → Complex Float → Complex Float
turned_by k c = complex (turned neg k c.re c.im).0 (turned neg k c.re c.im).1

-- the parts added, each rounded once
abbrev pub plus : Complex Float → Complex Float → Complex Float
plus a b = complex (add binary64 a.re b.re) (add binary64 a.im b.im)

-- coefficient i
abbrev pub coefficient : List Float → List Float → ℕ → Complex Float
coefficient re im i = complex (slice_index_or re i nan) (slice_index_or im i nan)

-- what term i adds: its coefficient, turned by the exponent of its action on the ket
abbrev pub term_at : List ℕ → List ℕ → List Float → List Float → ℕ → ℕ → Complex Float
term_at xs zs re im ket i = turned_by (exponent_of (slice_index xs i) (slice_index zs i) ket) (coefficient re im i)

-- +0
abbrev pub plus_zero : Float
plus_zero = fin false 0 (pos 0)

-- the sum over those of the first n terms that are in the block of t, in list order, from +0 on
abbrev pub sum_to : List ℕ → List ℕ → List Float → List Float → ℕ → ℕ → ℕ → Complex Float
sum_to xs zs re im t ket n = sum_over (in_block xs t) plus (complex plus_zero plus_zero) (term_at xs zs re im ket) n

abbrev pub both_finite : Complex Float → Bool
both_finite c = finite c.re && finite c.im

-- 11: a coefficient not finite, in any term, in the block or not
abbrev pub wild : List Float → List Float → Bool
wild re im = some (λ x. not (finite x)) re || some (λ x. not (finite x)) im

-- 12: a partial sum not finite
unfoldable pub overflows : List ℕ → List ℕ → List Float → List Float → ℕ → ℕ → Bool
overflows xs zs re im t ket = some_below (suc (length xs)) (λ n. not (both_finite (sum_to xs zs re im t ket n)))

-- the lines 1 to 12
abbrev pub float_lines : ℕ → List ℕ → List ℕ → List Float → List Float → ℕ → ℕ → List TableLine
float_lines n xs zs re im bra ket =
    term_lines n xs zs (length re) (length im) bra ket ++ line 11 (wild re im) ∷ line 12 (overflows xs zs re im (bit_xor bra ket) ket) ∷ []

-- the table's number and the values of each case: the complex sum has two values, no block none, a refusal its number
abbrev pub element : ℕ → Bool → Complex Float → Element Float
element k block s = one_of Refused NoBlock (Sum s.re s.im) k block

unfoldable pub element_of : ℕ → List ℕ → List ℕ → List Float → List Float → ℕ → ℕ → Element Float
element_of n xs zs re im bra ket =
    element (by_rank (float_lines n xs zs re im bra ket)) (has_a_block xs (bit_xor bra ket)) (sum_to xs zs re im (bit_xor bra ket) ket (length xs))
