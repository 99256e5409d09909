-- The sum over a block, from one place to the next: it goes on, or a partial sum is not sound. Assumes nothing.
-- Invariant: s is the sum so far, every partial sum so far is sound, and each part is what a sum of so many parts can be.
use Rattle.std.proofs.Common.{◌≡◌, ℕ, suc, ◌+◌, ◌<◌, ◌≤◌, Bool, true, false, not, ◌||◌, List, length, get_or, Some, None, sym, ap, ◌∙◌, ap₂, le_trans, le_refl, le_of_suc-le-suc, add-one, arith}
use Rattle.std.proofs.lemmas.List.{get_or_default}
use Rattle.encoding.specs.Refusals.{some_below}
use Rattle.encoding.proofs.Scan.{any-hit, any-never}
use Rattle.checked.specs.declared.Complex.{Complex}
use Rattle.mat_elem.specs.Sums.{exponent_of}
use Rattle.mat_elem.specs.Numbers.{Arithmetic, turned_by, coefficient_of, plus, none, term_at, span_sum, both_sound, span_of}
use Rattle.mat_elem.proofs.SumLaws.{range_none, range-next}

module _ {P A : Type 0} (o : Arithmetic P A) where
  abbrev pub bad : Complex A → Bool
  bad c = not (both_sound o c)

module _ {P A : Type 0} (o : Arithmetic P A) (reaches : ℕ → A → Type 0) where
  pub record Summed (xs zs : List ℕ) (re im : List P) (ket first last i : ℕ) (s : Complex A) : Type 0 where
    pub started : first ≤ i
    pub le : i ≤ last
    pub is : s ≡ span_sum o xs zs re im ket first i
    pub fine : some_below (suc i) (λ n. bad o (span_sum o xs zs re im ket first n)) ≡ false
    pub re-reaches : reaches i s.re
    pub im-reaches : reaches i s.im

module _ {P A : Type 0} (o : Arithmetic P A) (xs zs : List ℕ) (re im : List P) (ket first : ℕ) where
  -- before the first place the sum is none
  pub none-bad : o.sound o.zero ≡ true → (last : ℕ) → last ≤ first → some_below (suc last) (λ n. bad o (span_sum o xs zs re im ket first n)) ≡ false
  none-bad z last h =
      let f : bad o (none o) ≡ false = rw z in
      any-never (λ n. bad o (span_sum o xs zs re im ket first n)) (suc last)
      (λ k l. ap (bad o) (sym (range_none (plus o) (none o) (term_at o xs zs re im ket) first k (le_trans (le_of_suc-le-suc l) h))) ∙ f)

module _ {P A : Type 0} (o : Arithmetic P A) (reaches : ℕ → A → Type 0) (xs zs : List ℕ) (re im : List P) (ket first : ℕ) where
  pub sum-none : o.sound o.zero ≡ true → ((n : ℕ) → reaches n o.zero) → (last : ℕ) → first ≤ last → Summed o reaches xs zs re im ket first last first (none o)
  sum-none z r last h =
      record {
        started = le_refl first;
        le = h;
        is = range_none (plus o) (none o) (term_at o xs zs re im ket) first first (le_refl first);
        fine = none-bad o xs zs re im ket first z first (le_refl first);
        re-reaches = r first;
        im-reaches = r first;
      }

  module _ (last i : ℕ) (s r : Complex A) (m : Summed o reaches xs zs re im ket first last i s) (h : i < last) (e : r ≡ plus o s (term_at o xs zs re im ket i)) where
    next : r ≡ span_sum o xs zs re im ket first (i + 1)
    next = e ∙ ap (λ (c : Complex A). plus o c (term_at o xs zs re im ket i)) m.is ∙ sym (range-next (plus o) (none o) (term_at o xs zs re im ket) first i m.started)

    pub sum_more : both_sound o r ≡ true → reaches (i + 1) r.re → reaches (i + 1) r.im → Summed o reaches xs zs re im ket first last (i + 1) r
    unfolding some_below
    sum_more g u v =
        record {
          started = omega (arith, m.started);
          le = omega arith;
          is = next;
          fine = rw add-one (ap₂ ◌||◌ m.fine (ap (λ (n : ℕ). bad o (span_sum o xs zs re im ket first n)) (sym (add-one i)) ∙ ap (bad o) (sym next) ∙ ap not g));
          re-reaches = u;
          im-reaches = v;
        }

    pub sum-bad : both_sound o r ≡ false → None ≡ span_of o xs zs re im ket first last
    unfolding span_of
    sum-bad g = rw (any-hit (λ n. bad o (span_sum o xs zs re im ket first n)) (suc last) (i + 1) (omega arith) (ap (bad o) (sym next) ∙ ap not g))

  pub sum-all : (last i : ℕ) (s : Complex A) → Summed o reaches xs zs re im ket first last i s → last ≤ i → Some s ≡ span_of o xs zs re im ket first last
  unfolding span_of
  sum-all last i s m h =
      let e : i ≡ last = omega (arith, m.le) in
      let f : some_below (suc last) (λ n. bad o (span_sum o xs zs re im ket first n)) ≡ false = ap (λ (k : ℕ). some_below (suc k) (λ n. bad o (span_sum o xs zs re im ket first n))) (sym e) ∙ m.fine in
      rw f (ap Some (m.is ∙ ap (span_sum o xs zs re im ket first) e))

-- what a step adds is term i: its exponent, and its coefficient as it was read
pub term-read : {P A : Type 0} (o : Arithmetic P A) (xs zs : List ℕ) (re im : List P) (ket i : ℕ) (s : Complex A) (p q : P) {r : Complex A} {k : ℕ}
    → r ≡ plus o s (turned_by o k (coefficient_of o (get_or re i p) (get_or im i q))) → k ≡ exponent_of (get_or xs i 0) (get_or zs i 0) ket
    → i < length re → i < length im → r ≡ plus o s (term_at o xs zs re im ket i)
term-read o xs zs re im ket i s p q e d u v = rw (d, get_or_default re i p o.past u, get_or_default im i q o.past v) at e
