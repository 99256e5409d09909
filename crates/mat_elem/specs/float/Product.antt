-- RULES 8.9, "the bits of the sums by complex multiplication": the sum as the Rust has it, each coefficient times (1,0), (0,1), (-1,0) or (0,-1), whatever
-- the signs of these 0s, each exponent having its own; and what is promised of the call. Assumes nothing.
use Rattle.std.specs.Prelude.{◌≡◌, ℕ, zero, suc, Bool, true, false, not, T, List, [], ◌∷◌, ◌++◌, length, pos, bit_xor, slice_index, Float}
use Rattle.std.specs.Float.{nan, inf, fin, binary64}
use Rattle.std.specs.Float.Ieee.{add, sub, mul}
use Rattle.encoding.specs.Refusals.{some_below}
use Rattle.encoding.specs.Ranks.{line, by_rank}
use Rattle.mat_elem.specs.Terms.{term_lines, in_block, has_a_block}
use Rattle.mat_elem.specs.Sums.{Element, Sum, exponent_of, sum_over}
use Rattle.mat_elem.specs.float.Sums.{complex, plus, coefficient, plus_zero, both_finite, wild, element, element_of}
use Rattle.checked.specs.declared.Complex.{Complex}

-- the product of two complex numbers, each of its six operations rounded once
abbrev pub times : Complex Float → Complex Float → Complex Float
times x y = record {
  re = sub binary64 (mul binary64 x.re y.re) (mul binary64 x.im y.im);
  im = add binary64 (mul binary64 x.re y.im) (mul binary64 x.im y.re);
}

-- 1 and 0, with a sign
abbrev pub one_f : Bool → Float
one_f s = fin s 1 (pos 0)

abbrev pub nil_f : Bool → Float
nil_f s = fin s 0 (pos 0)

-- i to the k; z is the sign of its part that is 0
abbrev pub unit : Bool → ℕ → Complex Float
unit z zero = complex (one_f false) (nil_f z)
unit z (suc zero) = complex (nil_f z) (one_f false)
unit z (suc (suc zero)) = complex (one_f true) (nil_f z)
unit z (suc (suc (suc k))) = complex (nil_f z) (one_f true)

-- what term i adds; z gives the sign for each exponent
abbrev pub product_at : (ℕ → Bool) → List ℕ → List ℕ → List Float → List Float → ℕ → ℕ → Complex Float
product_at z xs zs re im ket i = let k = exponent_of (slice_index xs i) (slice_index zs i) ket in times (coefficient re im i) (unit (z k) k)

abbrev pub product_to : (ℕ → Bool) → List ℕ → List ℕ → List Float → List Float → ℕ → ℕ → ℕ → Complex Float
product_to z xs zs re im t ket n = sum_over (in_block xs t) plus (complex plus_zero plus_zero) (product_at z xs zs re im ket) n

-- the answer with the products' partial sums and sum
unfoldable pub product_of : (ℕ → Bool) → ℕ → List ℕ → List ℕ → List Float → List Float → ℕ → ℕ → Element Float
product_of z n xs zs re im bra ket =
    element
    (by_rank (term_lines n xs zs (length re) (length im) bra ket ++ line 11 (wild re im) ∷ line 12 (some_below (suc (length xs)) (λ k. not (both_finite (product_to z xs zs re im (bit_xor bra ket) ket k)))) ∷ []))
    (has_a_block xs (bit_xor bra ket))
    (product_to z xs zs re im (bit_xor bra ket) ket (length xs))

-- not -0
abbrev pub not_minus_zero : Float → Bool
not_minus_zero nan = true
not_minus_zero (inf s) = true
not_minus_zero (fin false m e) = true
not_minus_zero (fin true zero e) = false
not_minus_zero (fin true (suc m) e) = true

-- the whole of the call: its answer, by turns; that this has the bits of the one by products; and that no part of a sum is -0
pub record MatElem (n : ℕ) (xs zs : List ℕ) (re im : List Float) (bra ket : ℕ) (r : Element Float) : Type 0 where
  pub answer : r ≡ element_of n xs zs re im bra ket
  pub by-products : (z : ℕ → Bool) → r ≡ product_of z n xs zs re im bra ket
  pub never-minus-zero : (a b : Float) → r ≡ Sum a b → T (not_minus_zero a) × T (not_minus_zero b)
