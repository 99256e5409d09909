-- The theorem of request 12. Along the terms both sums go together: each partial float sum is the whole-number sum so far, and neither part of it is
-- larger than the absolute values added up so far; so each addition is exact, every partial sum is finite, and 12 does not arise. Assumes nothing.
use mathlib.Core.Path.{◌≡◌, refl, ap, ap₂, ◌∙◌, subst}
use mathlib.Core.Bool.{Bool, true, false, not, ◌&&◌, ◌||◌}
use mathlib.Core.List.{List, [], ◌∷◌, ◌++◌}
use Prim.Native.Nat.{ℕ, zero, suc, ◌+◌, ◌≤◌, ◌<◌}
use native.Mathlib.Nat.{le_refl, le_trans, le-suc}
use native.Mathlib.Omega.{arith}
use lib.Bits.{bit_xor}
use lib.Dec.{T}
use lib.Ieee.{Float, nan}
use lib.Ieee.Scale.{finite}
use lib.IntN.{ℤ, pos, nat_abs}
use lib.ListN.{length, get_or}
use Rattle.encoding.specs.Refusals.{some_below}
use Rattle.encoding.specs.Ranks.{line, by_rank}
use Rattle.encoding.proofs.Faults.{or_else}
use Rattle.encoding.proofs.Ranks.{rank-append}
use Rattle.mat_elem.specs.Terms.{term_lines, in_block, has_a_block}
use Rattle.mat_elem.specs.Sums.{Element, Refused, exponent_of, sum_over, step_if}
use Rattle.mat_elem.proofs.SumLaws.{sum-empty}
use Rattle.mat_elem.specs.float.Sums as F
use Rattle.mat_elem.specs.float.Product.{MatElem}
use Rattle.mat_elem.specs.Numbers.{floats}
use Rattle.mat_elem.proofs.Span.{bad}
use Rattle.mat_elem.specs.whole.Sums as W
use Rattle.checked.specs.declared.Complex.{Complex}
use Rattle.mat_elem.specs.whole.Laws.{nat_abs-neg, nat_abs-add}
use Rattle.exact.specs.Whole.{Reads, whole, size_at, size_to, exact_max, WholeBlock}
use Rattle.exact.specs.Claims.{ReadsAs, ExactTo}
use Rattle.exact.proofs.Reading.{reads-finite, reads-neg, reads-add}

-- a float sum is the whole-number sum w, neither part of which is larger than S
pub record Exactly (c : Complex Float) (w : Complex ℤ) (S : ℕ) : Type 0 where
  pub re-reads : Reads c.re w.re
  pub im-reads : Reads c.im w.im
  pub re-le : nat_abs w.re ≤ S
  pub im-le : nat_abs w.im ≤ S

both : (a b : Bool) → T a → T b → (a && b) ≡ true
both true true p q = refl
both false b p q = elim p [ ]
both true false p q = elim q [ ]

finite-sum : (c : Complex Float) (w : Complex ℤ) (S : ℕ) → Exactly c w S → bad floats c ≡ false
finite-sum c w S g = ap not (both (finite c.re) (finite c.im) (reads-finite _ _ g.re-reads) (reads-finite _ _ g.im-reads))

-- a coefficient turned is read as the whole number turned, and neither part outgrows both together
turned-reads : (k : ℕ) (c : Complex Float) (w : Complex ℤ) → Reads c.re w.re → Reads c.im w.im
    → Reads (F.turned_by k c).re (W.turned_by k w).re × Reads (F.turned_by k c).im (W.turned_by k w).im
turned-reads zero c w r i = (r, i)
turned-reads (suc zero) c w r i = (reads-neg c.im w.im i, r)
turned-reads (suc (suc zero)) c w r i = (reads-neg c.re w.re r, reads-neg c.im w.im i)
turned-reads (suc (suc (suc k))) c w r i = (i, reads-neg c.re w.re r)

turned-size : (k q : ℕ) (w : Complex ℤ) → nat_abs w.re ≤ q → nat_abs w.im ≤ q → (nat_abs (W.turned_by k w).re ≤ q) × (nat_abs (W.turned_by k w).im ≤ q)
turned-size zero q w r i = (r, i)
turned-size (suc zero) q w r i = (omega (arith, nat_abs-neg w.im), r)
turned-size (suc (suc zero)) q w r i = (omega (arith, nat_abs-neg w.re), omega (arith, nat_abs-neg w.im))
turned-size (suc (suc (suc k))) q w r i = (i, omega (arith, nat_abs-neg w.re))

-- one term more, of a size of at most q
one_more : (c d : Complex Float) (v w : Complex ℤ) (S q : ℕ) → Exactly c v S → Exactly d w q → S + q ≤ exact_max → Exactly (F.plus c d) (W.plus v w) (S + q)
one_more c d v w S q g t h =
    let re = joined (nat_abs v.re) (nat_abs w.re) g.re-le t.re-le in
    let im = joined (nat_abs v.im) (nat_abs w.im) g.im-le t.im-le in
    record {
      re-reads = reads-add c.re d.re v.re w.re g.re-reads t.re-reads (le_trans re h);
      im-reads = reads-add c.im d.im v.im w.im g.im-reads t.im-reads (le_trans im h);
      re-le = le_trans (nat_abs-add v.re w.re) re;
      im-le = le_trans (nat_abs-add v.im w.im) im;
    }
  where
    joined : (x y : ℕ) → x ≤ S → y ≤ q → x + y ≤ S + q
    joined x y l k = omega arith

module _ (xs zs : List ℕ) (fr fi : List Float) (re im : List ℤ) (t ket : ℕ) where
  abbrev float_to : ℕ → Complex Float
  float_to n = F.sum_to xs zs fr fi t ket n

  abbrev whole_to : ℕ → Complex ℤ
  whole_to n = sum_over (in_block xs t) W.plus (W.complex (pos 0) (pos 0)) (W.term_at xs zs re im ket) n

  term-exactly : (k : ℕ) → Reads (get_or fr k nan) (get_or re k (pos 0)) → Reads (get_or fi k nan) (get_or im k (pos 0))
      → Exactly (F.term_at xs zs fr fi ket k) (W.term_at xs zs re im ket k) (size_at re im k)
  term-exactly k r i =
      let e = exponent_of (get_or xs k 0) (get_or zs k 0) ket in
      let w = W.complex (get_or re k (pos 0)) (get_or im k (pos 0)) in
      let p = turned-reads e (F.coefficient fr fi k) w r i in
      let s = turned-size e (size_at re im k) w (omega arith) (omega arith) in
      record { re-reads = p.0; im-reads = p.1; re-le = s.0; im-le = s.1 }

  -- after n terms, none of whose partial sums is refused
  pub record After (n : ℕ) : Type 0 where
    pub exactly : Exactly (float_to n) (whole_to n) (size_to xs re im t n)
    pub fine : some_below (suc n) (λ k. bad floats (float_to k)) ≡ false

  module _ (hr : (k : ℕ) → k < length xs → in_block xs t k ≡ true → Reads (get_or fr k nan) (get_or re k (pos 0)))
      (hi : (k : ℕ) → k < length xs → in_block xs t k ≡ true → Reads (get_or fi k nan) (get_or im k (pos 0))) where
    pub after : (n : ℕ) → n ≤ length xs → size_to xs re im t n ≤ exact_max → After n
    unfolding size_to sum_over some_below
    after zero h l =
        let nil : Reads F.plus_zero (pos 0) = whole {x = F.plus_zero} false 0 (refl, refl) in
        let g : Exactly (float_to 0) (whole_to 0) 0 = record { re-reads = nil; im-reads = nil; re-le = le_refl 0; im-le = le_refl 0 } in
        record { exactly = g; fine = finite-sum _ _ _ g }
    after (suc n) h l =
        let p = go (after n (le_trans (le-suc n) h)) (in_block xs t n) refl l in
        record { exactly = p.1; fine = ap₂ ◌||◌ p.0.fine (finite-sum _ _ _ p.1) }
      where
        S : ℕ
        S = size_to xs re im t n

        more : (S q : ℕ) → S ≤ S + q
        more S q = omega arith

        go : (S ≤ exact_max → After n) → (at : Bool) → in_block xs t n ≡ at → step_if at (λ (s : ℕ). s + size_at re im n) S ≤ exact_max
            → After n
            × Exactly (step_if at (λ (s : Complex Float). F.plus s (F.term_at xs zs fr fi ket n)) (float_to n))
            (step_if at (λ (s : Complex ℤ). W.plus s (W.term_at xs zs re im ket n)) (whole_to n))
            (step_if at (λ (s : ℕ). s + size_at re im n) S)
        go ih false e m = (ih m, (ih m).exactly)
        go ih true e m =
            let a = ih (le_trans (more S (size_at re im n)) m) in
            (a, one_more _ _ _ _ S (size_at re im n) a.exactly (term-exactly n (hr n h e) (hi n h e)) m)

-- ---- the call
module _ (n : ℕ) (xs zs : List ℕ) (fr fi : List Float) (re im : List ℤ) (bra ket : ℕ) (w : WholeBlock exact_max n xs zs fr fi re im bra ket)
  where
    abbrev t : ℕ
    t = bit_xor bra ket

    abbrev float_sum : Complex Float
    float_sum = F.sum_to xs zs fr fi t ket (length xs)

    abbrev whole_sum : Complex ℤ
    whole_sum = W.block_sum xs zs re im t ket

    last : After xs zs fr fi re im t ket (length xs)
    last = after xs zs fr fi re im t ket w.re-whole w.im-whole (length xs) (le_refl (length xs)) w.small

    -- nothing is refused, 12 included
    pub not-refused : by_rank (F.float_lines n xs zs fr fi bra ket) ≡ 0
    unfolding by_rank F.overflows
    not-refused =
        rank-append (term_lines n xs zs (length fr) (length fi) bra ket ++ line 11 (F.wild fr fi) ∷ []) (line 12 (F.overflows xs zs fr fi t ket) ∷ []) refl
        ∙ ap₂ (λ (k : ℕ) (b : Bool). or_else k (by_rank (line 12 b ∷ []))) w.taken last.fine

    pub sum-exactly : Exactly float_sum whole_sum (size_to xs re im t (length xs))
    sum-exactly = last.exactly

    reads_as : (b : Bool) → has_a_block xs t ≡ b → ReadsAs (F.element 0 b float_sum) whole_sum
    reads_as true e = (sum-exactly.re-reads, sum-exactly.im-reads)
    reads_as false e = sum-empty W.plus (W.complex (pos 0) (pos 0)) (W.term_at xs zs re im ket) xs t e

-- request 12: the float call answers with the whole-number sum
pub exact : ExactTo exact_max
unfolding F.element_of
exact n xs zs fr fi re im bra ket r c w =
    rw (c.answer, not-refused n xs zs fr fi re im bra ket w) (reads_as n xs zs fr fi re im bra ket w (has_a_block xs (bit_xor bra ket)) refl)

-- so it gives no refusal, 12 or any other
pub never-refused : (n : ℕ) (xs zs : List ℕ) (fr fi : List Float) (re im : List ℤ) (bra ket : ℕ) (r : Element Float) → MatElem n xs zs fr fi bra ket r
    → WholeBlock exact_max n xs zs fr fi re im bra ket → (k : ℕ) → r ≡ Refused k → ⊥
never-refused n xs zs fr fi re im bra ket r c w k e =
    subst (λ (x : Element Float). ReadsAs x (W.block_sum xs zs re im (bit_xor bra ket) ket)) e (exact n xs zs fr fi re im bra ket r c w)
