-- The two calls on the same i32 parts answer the same, refusals included. 65,536 terms of two i32 parts come to at most 2 ^ 48, so the bound holds of
-- itself; a float that is a whole number is finite, so 11 does not arise; and 1 to 10 are the same tests. Assumes nothing.
use mathlib.Core.Path.{◌≡◌, refl, ap, ap₂, ◌∙◌}
use mathlib.Core.Bool.{Bool, true, false, not, ◌||◌}
use mathlib.Core.List.{List, [], ◌∷◌}
use Prim.Native.Nat.{ℕ, zero, suc, ◌+◌, ◌*◌, ◌≤◌, ◌<◌}
use native.Mathlib.Nat.{le_refl, le_trans, le-suc}
use native.Mathlib.Omega.{arith}
use lib.Bits.{bit_xor}
use lib.Dec.{T, lit≤}
use lib.Ieee.{Float, nan}
use lib.Ieee.Scale.{finite}
use lib.IntN.{ℤ, pos, nat_abs}
use lib.ListN.{length, get_or}
use lib.Signed.{nat_abs-le}
use Rattle.encoding.specs.Refusals.{some}
use Rattle.encoding.specs.Ranks.{TableLine, line, by_rank}
use Rattle.encoding.proofs.Faults.{or_else}
use Rattle.encoding.proofs.Ranks.{rank-append}
use Rattle.encoding.proofs.Scan.{some-never}
use Rattle.mat_elem.specs.Terms.{max_terms, term_lines, in_block, has_a_block}
use Rattle.mat_elem.specs.Sums.{Element, sum_over, step_if}
use Rattle.mat_elem.proofs.Faults.{sound}
use Rattle.mat_elem.specs.float.Sums as F
use Rattle.mat_elem.specs.float.Product.{MatElem as FloatMatElem}
use Rattle.mat_elem.proofs.float.Block.{number_is}
use Rattle.mat_elem.specs.whole.Sums as W
use Rattle.mat_elem.specs.Workers.{part_max}
use Rattle.exact.specs.Whole.{size_at, size_to, exact_max, WholeBlock}
use Rattle.exact.specs.Claims.{SameParts, Same, sums, none, refused}
use Rattle.exact.proofs.Reading.{reads-finite}
use Rattle.exact.proofs.Exact.{not-refused, sum-exactly}

-- ---- 11 does not arise
is_true : (b : Bool) → T b → b ≡ true
is_true true h = refl
is_true false h = elim h [ ]

no-wild : (fs : List Float) (is : List ℤ) → SameParts fs is → some (λ x. not (finite x)) fs ≡ false
no-wild fs is p = some-never (λ x. not (finite x)) nan fs (λ k h. ap not (is_true (finite (get_or fs k nan)) (reads-finite _ _ (p.reads k h))))

-- ---- the bound holds of itself
part_small : (fs : List Float) (is : List ℤ) → SameParts fs is → (k : ℕ) → k < length fs → nat_abs (get_or is k (pos 0)) ≤ part_max
part_small fs is p k h = nat_abs-le (get_or is k (pos 0)) (p.i32 k h).sfits

module _ (xs : List ℕ) (re im : List ℤ) (t : ℕ) where
  small-to : (n : ℕ) → ((k : ℕ) → k < n → nat_abs (get_or re k (pos 0)) ≤ part_max) → ((k : ℕ) → k < n → nat_abs (get_or im k (pos 0)) ≤ part_max)
      → size_to xs re im t n ≤ n * (part_max + part_max)
  unfolding size_to sum_over
  small-to zero hr hi = le_refl 0
  small-to (suc n) hr hi =
      let q : size_at re im n ≤ part_max + part_max = omega (arith, hr n (le_refl (suc n)), hi n (le_refl (suc n))) in
      go (in_block xs t n) (size_to xs re im t n) (size_at re im n) (small-to n (λ k l. hr k (le_trans l (le-suc n))) (λ k l. hi k (le_trans l (le-suc n)))) q
    where
      go : (at : Bool) (S q : ℕ) → S ≤ n * (part_max + part_max) → q ≤ part_max + part_max → step_if at (λ (s : ℕ). s + q) S ≤ suc n * (part_max + part_max)
      go true S q h g = omega arith
      go false S q h g = omega arith

-- ---- both calls
module _ (n : ℕ) (xs zs : List ℕ) (fr fi : List Float) (re im : List ℤ) (bra ket : ℕ) (pr : SameParts fr re) (pi : SameParts fi im) where
  abbrev t : ℕ
  t = bit_xor bra ket

  abbrev tests : List TableLine
  tests = term_lines n xs zs (length fr) (length fi) bra ket

  -- the answers of the two calls, by the number of the lines 1 to 10 and whether there is a block
  abbrev float_answer : ℕ → Bool → Element Float
  float_answer k b = F.element k b (F.sum_to xs zs fr fi t ket (length xs))

  abbrev whole_answer : ℕ → Bool → Element ℤ
  whole_answer k b = W.element k b (W.block_sum xs zs re im t ket)

  plain : F.wild fr fi ≡ false
  plain = ap₂ ◌||◌ (no-wild fr re pr) (no-wild fi im pi)

  whole-block : by_rank tests ≡ 0 → WholeBlock exact_max n xs zs fr fi re im bra ket
  unfolding by_rank
  whole-block e =
      let s = (sound n xs zs (length fr) (length fi) bra ket e).shape in
      let rl : (k : ℕ) → k < length xs → k < length fr = λ k h. omega (arith, s.re-long) in
      let il : (k : ℕ) → k < length xs → k < length fi = λ k h. omega (arith, s.im-long) in
      let l = small-to xs re im t (length xs) (λ k h. part_small fr re pr k (rl k h)) (λ k h. part_small fi im pi k (il k h)) in
      record {
        taken = rank-append tests (line 11 (F.wild fr fi) ∷ []) refl ∙ ap₂ (λ (k : ℕ) (b : Bool). or_else k (by_rank (line 11 b ∷ []))) e plain;
        re-whole = λ k h _. pr.reads k (rl k h);
        im-whole = λ k h _. pi.reads k (il k h);
        small = le_trans l (le_trans (most (length xs) s.short) (lit≤ tt));
      }
    where
      most : (m : ℕ) → m ≤ max_terms → m * (part_max + part_max) ≤ max_terms * (part_max + part_max)
      most m h = omega arith

  -- request 12 for i32 parts
  pub editions : (r : Element Float) (s : Element ℤ) → FloatMatElem n xs zs fr fi bra ket r → W.MatElem n xs zs re im bra ket s → Same r s
  unfolding F.element_of W.element_of
  editions r s c d = rw (c.answer, d.answer, pr.long, pi.long) (go (by_rank tests) refl)
    where
      go : (j : ℕ) → by_rank tests ≡ j → Same (float_answer (by_rank (F.float_lines n xs zs fr fi bra ket)) (has_a_block xs t)) (whole_answer (by_rank tests) (has_a_block xs t))
      go (suc j) e = rw (number_is n xs zs fr fi bra ket (F.overflows xs zs fr fi t ket), e) (refused (suc j))
      go zero e = rw (not-refused n xs zs fr fi re im bra ket (whole-block e), e) (by-block (has_a_block xs t))
        where
          by-block : (b : Bool) → Same (float_answer 0 b) (whole_answer 0 b)
          by-block true = let g = sum-exactly n xs zs fr fi re im bra ket (whole-block e) in sums g.re-reads g.im-reads
          by-block false = none
