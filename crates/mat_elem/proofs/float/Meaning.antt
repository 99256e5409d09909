-- What is promised of the call beside its answer: the bits of complex multiplication, no sum that is -0, and when 12 and "no block" are given.
-- Assumes nothing.
use Rattle.std.proofs.Common.{◌≡◌, ℕ, zero, suc, ◌<◌, ◌≤◌, Bool, true, false, not, ◌&&◌, ◌||◌, T, ◌↔◌, List, [], ◌∷◌, length, get_or, sym, refl, ap, ◌∙◌, subst, ap₂, true≢false, suc-le-suc, le_trans, le_refl, lt_of_lt_of_le, le_of_suc-le-suc, arith}
use mathlib.Core.Bool.{or_self, or-false, false≢true}
use native.Mathlib.Nat.{le-suc}
use borrow.Author.Tests.{not-true, not-false}
use lib.Bits.{bit_xor}
use lib.Ieee.{Float, nan, binary64, add, fits}
use lib.Ieee.Scale.{finite}
use Rattle.encoding.specs.Refusals.{some, some_below}
use Rattle.encoding.specs.declared.Refusal.{Refusal}
use Rattle.encoding.specs.Ranks.{line, by_rank}
use Rattle.encoding.proofs.Faults.{or_else, or-none}
use Rattle.encoding.proofs.Ranks.{none-holds, Given}
use Rattle.encoding.proofs.Scan.{none_of, some-none, any-hit, any_same}
use Rattle.mat_elem.specs.Terms.{term_lines, in_block, has_a_block}
use Rattle.mat_elem.specs.Sums.{Element, Sum, NoBlock, Refused, exponent_of, step_if, sum_over}
use Rattle.mat_elem.proofs.OneOf.{Differ, refused-when as any-refused, none-when as any_none}
use Rattle.mat_elem.proofs.Faults.{sound}
use Rattle.mat_elem.specs.float.Sums.{complex, plus, term_at, sum_to, both_finite, wild, overflows, float_lines, element, element_of}
use Rattle.mat_elem.specs.float.Product.{not_minus_zero, product_to, product_of, MatElem}
use Rattle.checked.specs.declared.Complex.{Complex}
use Rattle.mat_elem.proofs.float.Times.{Plain, turned_plain}
use Rattle.mat_elem.proofs.float.Partial.{BothLive, add-past, same-sums}
use Rattle.mat_elem.specs.Numbers.{floats}
use Rattle.mat_elem.proofs.Span.{bad}
use Rattle.mat_elem.proofs.float.Block.{number_is}

some-found : (f : ℕ → Bool) (m : ℕ) → some_below m f ≡ true → (k : ℕ) × (k < m) × (f k ≡ true)
unfolding some_below
some-found f zero e = absurd (false≢true e)
some-found f (suc m) e = go (f m) refl (some-found f m)
  where
    go : (b : Bool) → f m ≡ b → (some_below m f ≡ true → (k : ℕ) × (k < m) × (f k ≡ true)) → (k : ℕ) × (k < suc m) × (f k ≡ true)
    go true q ih = (m, le_refl (suc m), q)
    go false q ih = let r = ih (sym (or-false (some_below m f)) ∙ ap (λ (b : Bool). some_below m f || b) (sym q) ∙ e) in (r.0, le_trans r.1 (le-suc m), r.2)

-- every number is an f64, as the elements of a slice of them are
abbrev pub AllF64 : List Float → Type 0
AllF64 l = (k : ℕ) → T (fits binary64 (get_or l k nan))

plain : (l : List Float) → AllF64 l → some (λ x. not (finite x)) l ≡ false → (k : ℕ) → k < length l → Plain (get_or l k nan)
plain l f w k h =
    let e : finite (get_or l k nan) ≡ true = not-false (finite (get_or l k nan)) (some-none (λ x. not (finite x)) nan l w k h) in
    record { is_finite = subst T (sym e) tt; is-f64 = f k }

-- ---- a sum that is not finite stays so

past : (x y : Float) → T (finite y) → finite x ≡ false → finite (add binary64 x y) ≡ false
past x y h q = ap finite (add-past x y q h) ∙ q

either : (a b c d : Bool) → (a ≡ false → c ≡ false) → (b ≡ false → d ≡ false) → (not (a && b) || not (c && d)) ≡ not (c && d)
either true true c d f g = refl
either true false c true f g = absurd (true≢false (g refl))
either true false true false f g = refl
either true false false false f g = refl
either false b true d f g = absurd (true≢false (f refl))
either false b false d f g = refl

goes_on : (at : Bool) (s d : Complex Float) → T (finite d.re) → T (finite d.im)
    → (bad floats s || bad floats (step_if at (λ (u : Complex Float). plus u d) s)) ≡ bad floats (step_if at (λ (u : Complex Float). plus u d) s)
goes_on true s d p q =
    either (finite s.re) (finite s.im) (finite (add binary64 s.re d.re)) (finite (add binary64 s.im d.im)) (past s.re d.re p) (past s.im d.im q)
goes_on false s d p q = or_self (bad floats s)

module _ (xs zs : List ℕ) (re im : List Float) (t ket : ℕ) where
  last-bad : (m : ℕ) → ((k : ℕ) → k < m → Plain (get_or re k nan) × Plain (get_or im k nan)) → some_below (suc m) (λ k. bad floats (sum_to xs zs re im t ket k)) ≡ bad floats (sum_to xs zs re im t ket m)
  unfolding some_below sum_over
  last-bad zero h = refl
  last-bad (suc m) h =
      let w = h m (omega arith) in
      let p = turned_plain (get_or re m nan) (get_or im m nan) w.0 w.1 (exponent_of (get_or xs m 0) (get_or zs m 0) ket) in
      ap (λ (b : Bool). b || bad floats (sum_to xs zs re im t ket (suc m))) (last-bad m (λ k l. h k (omega arith)))
      ∙ goes_on (in_block xs t m) (sum_to xs zs re im t ket m) (term_at xs zs re im ket m) p.0.is_finite p.1.is_finite

module _ (n : ℕ) (xs zs : List ℕ) (re im : List Float) (bra ket : ℕ) (fr : AllF64 re) (fi : AllF64 im) where
  abbrev t : ℕ
  t = bit_xor bra ket

  -- the number of the lines 1 to 11
  abbrev early : ℕ
  early = or_else (by_rank (term_lines n xs zs (length re) (length im) bra ket)) (by_rank (line 11 (wild re im) ∷ []))

  pub plains : early ≡ 0 → (k : ℕ) → k < length xs → Plain (get_or re k nan) × Plain (get_or im k nan)
  plains e k h =
      let o = or-none (by_rank (term_lines n xs zs (length re) (length im) bra ket)) (by_rank (line 11 (wild re im) ∷ [])) e in
      let s = (sound n xs zs (length re) (length im) bra ket o.0).shape in
      let w = none_of (some (λ x. not (finite x)) re) (some (λ x. not (finite x)) im) (none-holds (line 11 (wild re im) ∷ []) refl o.1 0) in
      (plain re fr w.0 k (omega (arith, s.re-long)), plain im fi w.1 k (omega (arith, s.im-long)))

  -- every partial sum of a call that 1 to 11 do not refuse
  pub sums : (z : ℕ → Bool) → early ≡ 0 → (m : ℕ) → m ≤ length xs → (product_to z xs zs re im t ket m ≡ sum_to xs zs re im t ket m) × BothLive (sum_to xs zs re im t ket m)
  sums z e m l = same-sums z xs zs re im t ket m (λ k h. plains e k (lt_of_lt_of_le h l))

  -- the sums never become -0
  pub never-minus-zero : early ≡ 0 → (m : ℕ) → m ≤ length xs → T (not_minus_zero (sum_to xs zs re im t ket m).re) × T (not_minus_zero (sum_to xs zs re im t ket m).im)
  never-minus-zero e m l = ((sums (λ _. false) e m l).1.0.not-minus, (sums (λ _. false) e m l).1.1.not-minus)

  -- the answer has the bits of the one by products
  pub by_product : (z : ℕ → Bool) → element_of n xs zs re im bra ket ≡ product_of z n xs zs re im bra ket
  unfolding element_of product_of overflows
  by_product z = rw (number_is n xs zs re im bra ket (some_below (suc (length xs)) (λ k. bad floats (sum_to xs zs re im t ket k))), number_is n xs zs re im bra ket (some_below (suc (length xs)) (λ k. bad floats (product_to z xs zs re im t ket k)))) (go early refl)
    where
      go : (j : ℕ) → early ≡ j
          → element (or_else j (by_rank (line 12 (some_below (suc (length xs)) (λ k. bad floats (sum_to xs zs re im t ket k))) ∷ []))) (has_a_block xs t) (sum_to xs zs re im t ket (length xs))
          ≡ element (or_else j (by_rank (line 12 (some_below (suc (length xs)) (λ k. bad floats (product_to z xs zs re im t ket k))) ∷ []))) (has_a_block xs t) (product_to z xs zs re im t ket (length xs))
      go (suc j) e = refl
      go zero e =
          ap₂ (λ (b : Bool) (s : Complex Float). element (by_rank (line 12 b ∷ [])) (has_a_block xs t) s)
          (any_same (λ k. bad floats (sum_to xs zs re im t ket k)) (λ k. bad floats (product_to z xs zs re im t ket k)) (suc (length xs)) (λ k l. ap (bad floats) (sym (sums z e k (le_of_suc-le-suc l)).0)))
          (sym (sums z e (length xs) (omega arith)).0)

  not-minus : (a b : Float) → element_of n xs zs re im bra ket ≡ Sum a b → T (not_minus_zero a) × T (not_minus_zero b)
  unfolding element_of
  not-minus a b q =
      go early (by_rank (line 12 (overflows xs zs re im t ket) ∷ [])) (has_a_block xs t) refl (ap (λ (k : ℕ). element k (has_a_block xs t) (sum_to xs zs re im t ket (length xs))) (sym (number_is n xs zs re im bra ket (overflows xs zs re im t ket))) ∙ q)
    where
      go : (j k : ℕ) (h : Bool) → early ≡ j → element (or_else j k) h (sum_to xs zs re im t ket (length xs)) ≡ Sum a b → T (not_minus_zero a) × T (not_minus_zero b)
      go (suc j) k h p e = let no : ◌≡◌ {A = ℕ} 0 1 = cc in absurd (omega arith)
      go zero (suc k) h p e = let no : ◌≡◌ {A = ℕ} 0 1 = cc in absurd (omega arith)
      go zero zero false p e = let no : ◌≡◌ {A = ℕ} 0 1 = cc in absurd (omega arith)
      go zero zero true p e =
          let l = never-minus-zero p (length xs) (omega arith) in
          let q : sum_to xs zs re im t ket (length xs) ≡ complex a b = cc in
          subst (λ (c : Complex Float). T (not_minus_zero c.re) × T (not_minus_zero c.im)) q l

  pub mat-elem : {r : (Element Float)} → r ≡ element_of n xs zs re im bra ket → MatElem n xs zs re im bra ket r
  mat-elem e = record { answer = e; by-products = λ z. e ∙ by_product z; never-minus-zero = λ a b q. not-minus a b (sym e ∙ q) }

  -- a partial sum is not finite exactly when the last is not
  pub last_sum : early ≡ 0 → overflows xs zs re im t ket ≡ bad floats (sum_to xs zs re im t ket (length xs))
  unfolding overflows
  last_sum e = last-bad xs zs re im t ket (length xs) (plains e)

-- ---- exactly when

differ : {a b : Float} → Differ Refused NoBlock (Sum a b)
differ = record {
  numbers = λ j k e. let q : ◌≡◌ {A = Refusal} (record { 0 = j }) (record { 0 = k }) = cc in ap (λ (r : Refusal). r.0) q;
  refused_none = λ j e. let no : ◌≡◌ {A = ℕ} 0 1 = cc in omega arith;
  refused-sum = λ j e. let no : ◌≡◌ {A = ℕ} 0 1 = cc in omega arith;
  none-sum = λ e. let no : ◌≡◌ {A = ℕ} 0 1 = cc in omega arith;
}

module _ (n : ℕ) (xs zs : List ℕ) (re im : List Float) (bra ket : ℕ) where
  abbrev number : ℕ
  number = by_rank (float_lines n xs zs re im bra ket)

  -- for 12 the line is that a partial sum is not finite
  pub refused-when : (j : ℕ) → (element_of n xs zs re im bra ket ≡ Refused (suc j)) ↔ Given (suc j) (float_lines n xs zs re im bra ket)
  unfolding element_of
  refused-when = any-refused Refused NoBlock _ differ (float_lines n xs zs re im bra ket) (has_a_block xs (bit_xor bra ket))

  pub none-when : (element_of n xs zs re im bra ket ≡ NoBlock) ↔ ((number ≡ 0) × ((k : ℕ) → k < length xs → get_or xs k 0 ≡ bit_xor bra ket → ⊥))
  unfolding element_of
  none-when = any_none Refused NoBlock _ differ number xs (bit_xor bra ket)

  -- the line of 12, by a partial sum
  pub overflow-when : (overflows xs zs re im (bit_xor bra ket) ket ≡ true) ↔ ((m : ℕ) × (m ≤ length xs) × (both_finite (sum_to xs zs re im (bit_xor bra ket) ket m) ≡ false))
  unfolding overflows
  overflow-when = (
    λ e. let r = some-found (λ k. bad floats (sum_to xs zs re im (bit_xor bra ket) ket k)) (suc (length xs)) e in (r.0, le_of_suc-le-suc r.1, not-true (both_finite (sum_to xs zs re im (bit_xor bra ket) ket r.0)) r.2),
    λ h. any-hit (λ k. bad floats (sum_to xs zs re im (bit_xor bra ket) ket k)) (suc (length xs)) h.0 (suc-le-suc h.1) (ap not h.2),
  )
