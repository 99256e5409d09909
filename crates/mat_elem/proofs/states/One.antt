-- One bra and one ket of coefficient 1: the answer of the call for one vector each, "no block" as zero. The tests are the same, 1 times 1 times the element is
-- the element, and 16 cannot arise: 65,536 terms of i32 parts are small (`never`). Assumes nothing.
use Rattle.std.proofs.Common.{◌≡◌, ℕ, zero, suc, ◌*◌, ◌^◌, ◌≤◌, Bool, true, false, ◌||◌, List, length, get_or, ℤ, pos, nat_abs, sym, refl, ap, ◌∙◌, ap₂, le_refl, arith, w32, SFits}
use mathlib.Core.Bool.{or-false}
use lib.Bits.{bit_xor}
use lib.Signed.{nat_abs-le}
use Rattle.pauli.specs.Gauss.{◌⊗◌, g1}
use Rattle.pauli.proofs.GaussRing.{g1-⊗}
use Rattle.pauli.proofs.Vectors.{g0-⊕}
use Rattle.encoding.specs.Refusals.{some}
use Rattle.encoding.specs.Ranks.{by_rank}
use Rattle.mat_elem.specs.Terms.{set_from, has_a_block, lines_to10, term_lines}
use Rattle.mat_elem.specs.whole.Sums.{complex, plus, term_at, block_sum, element, element_of}
use Rattle.checked.specs.declared.Complex.{Complex}
use Rattle.mat_elem.specs.states.Sums.{Sum, Terms, element_at, through, all_pairs, vector_lines, total, total_of}
use Rattle.mat_elem.specs.states.Sizes.{size_to, state_size, alone, as_total}
use Rattle.mat_elem.proofs.SumLaws.{sum-empty}
use Rattle.mat_elem.proofs.states.Tests.{tests-ready}
use Rattle.mat_elem.proofs.states.Never.{never}

-- i32 parts are small: at most 2^32 a term
size-i32 : (re im : List ℤ) → ((i : ℕ) → SFits w32 (get_or re i (pos 0))) → ((i : ℕ) → SFits w32 (get_or im i (pos 0))) → (m : ℕ) → size_to re im m ≤ m * 2 ^ 32
unfolding size_to
size-i32 re im f g zero = le_refl 0
size-i32 re im f g (suc m) =
    let a : nat_abs (get_or re m (pos 0)) ≤ 2 ^ 31 = nat_abs-le (get_or re m (pos 0)) (f m).sfits in
    let b : nat_abs (get_or im m (pos 0)) ≤ 2 ^ 31 = nat_abs-le (get_or im m (pos 0)) (g m).sfits in
    omega (arith, size-i32 re im f g m, a, b)

one_size : (w : ℕ) → state_size (alone w) ≡ 1
unfolding size_to
one_size w = refl

module _ (n : ℕ) (A : Terms) (bra ket : ℕ) where
  abbrev tests : ℕ
  tests = by_rank (vector_lines n A (alone bra) (alone ket))

  same_tests : tests ≡ by_rank (term_lines n A.xs A.zs (length A.re) (length A.im) bra ket)
  unfolding some
  same_tests = ap₂ (λ (x y : Bool). by_rank (lines_to10 n A.xs A.zs (length A.re) (length A.im) false false (x || y))) (or-false (set_from n bra)) (or-false (set_from n ket))

  one-sum : (all_pairs A (alone bra) (alone ket)).sum ≡ element_at A bra ket
  unfolding through
  one-sum = g0-⊕ (g1 ⊗ element_at A bra ket) ∙ g1-⊗ (element_at A bra ket)

  module _ (fr : (i : ℕ) → SFits w32 (get_or A.re i (pos 0))) (fi : (i : ℕ) → SFits w32 (get_or A.im i (pos 0))) where
    one-fits : tests ≡ 0 → (all_pairs A (alone bra) (alone ket)).fits ≡ true
    one-fits e =
        let r = tests-ready n A (alone bra) (alone ket) e in
        let s = size-i32 A.re A.im fr fi (length A.xs) in
        never A (alone bra) (alone ket) (record { without = rw (one_size bra) (omega arith); with = rw (one_size bra) (omega (arith, s, r.few)) })

    -- both calls give the same answer
    pub one-pair : total_of n A (alone bra) (alone ket) ≡ as_total (element_of n A.xs A.zs A.re A.im bra ket)
    unfolding total_of element_of
    one-pair = go tests refl
      where
        t : ℕ
        t = bit_xor bra ket

        s : Complex ℤ
        s = block_sum A.xs A.zs A.re A.im t ket

        found : (b : Bool) → has_a_block A.xs t ≡ b → Sum s.re s.im ≡ as_total (element 0 b s)
        found true e = refl
        found false e = ap (λ (c : Complex ℤ). Sum c.re c.im) (sum-empty plus (complex (pos 0) (pos 0)) (term_at A.xs A.zs A.re A.im ket) A.xs t e)

        go : (k : ℕ) → tests ≡ k → total tests (all_pairs A (alone bra) (alone ket))
            ≡ as_total (element (by_rank (term_lines n A.xs A.zs (length A.re) (length A.im) bra ket)) (has_a_block A.xs t) s)
        go zero e =
            rw (sym same_tests, e, one-fits e, one-sum)
            (found (has_a_block A.xs t) refl)
        go (suc k) e = rw (sym same_tests, e)
