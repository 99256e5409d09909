-- The whole-number sum is the entry, between bra and ket, of the matrix of the whole operator. Turning by the exponent is multiplying by i to it.
-- Assumes nothing.
use Rattle.std.proofs.Common.{◌≡◌, ℕ, zero, suc, ◌^◌, ◌<◌, Bool, true, false, ◌↔◌, List, length, get_or, ℤ, pos, ◌+ℤ◌, ◌-ℤ◌, neg_ℤ, sym, refl, ap, ◌∙◌, ap₂, arith}
use lib.Bits.{bit_xor}
use lib.IntN.{+ℤ_idl, +ℤ_idr, *ℤ-zero, *ℤ-one, neg_ℤ-neg_ℤ, one}
use Rattle.pauli.specs.Gauss.{Gauss, ◌⊕◌, ◌⊗◌, g0, gi, ipow}
use Rattle.pauli.proofs.GaussRing.{by_parts, ⊗-assoc}
use Rattle.pauli.proofs.Vectors.{⊗-g1}
use Rattle.encoding.specs.declared.Refusal.{Refusal}
use Rattle.encoding.specs.Ranks.{by_rank}
use Rattle.encoding.proofs.Ranks.{Given}
use Rattle.encoding.proofs.WordLaws.{Fit}
use Rattle.mat_elem.specs.Terms.{term_lines, in_block, has_a_block}
use Rattle.mat_elem.specs.Sums.{Element, Sum, NoBlock, Refused, exponent_of, turned, step_if, sum_over}
use Rattle.mat_elem.specs.Operator.{state_of, coefficient, operator}
use Rattle.mat_elem.proofs.Entry.{adds, operator-entry}
use Rattle.mat_elem.proofs.OneOf.{Differ, refused-when as any-refused, none-when as any_none}
use Rattle.mat_elem.proofs.SumLaws.{sum-empty}
use Rattle.mat_elem.specs.whole.Sums.{complex, plus, term_at, block_sum, element, element_of, value_of, MatElem}
use Rattle.checked.specs.declared.Complex.{Complex}

-- ---- turning by the exponent

times-i : (c : Gauss) → c ⊗ gi ≡ record { re = neg_ℤ c.im; im = c.re }
unfolding one
times-i c =
    by_parts (ap₂ (λ (x y : ℤ). x -ℤ y) (*ℤ-zero c.re) (*ℤ-one c.im) ∙ +ℤ_idl (neg_ℤ c.im))
    (ap₂ (λ (x y : ℤ). x +ℤ y) (*ℤ-one c.re) (*ℤ-zero c.im) ∙ +ℤ_idr c.re)

abbrev turned_g : ℕ → Gauss → Gauss
turned_g k c = record { re = (turned neg_ℤ k c.re c.im).0; im = (turned neg_ℤ k c.re c.im).1 }

-- by one more
next : (k : ℕ) (c : Gauss) → c ⊗ ipow (suc k) ≡ record { re = neg_ℤ c.im; im = c.re } ⊗ ipow k
next k c = sym (⊗-assoc c gi (ipow k)) ∙ ap (λ (u : Gauss). u ⊗ ipow k) (times-i c)

pub turned-is : (k : ℕ) → k < 4 → (c : Gauss) → turned_g k c ≡ c ⊗ ipow k
turned-is zero h c = sym (⊗-g1 c)
turned-is (suc zero) h c = sym (next 0 c ∙ sym (turned-is zero (omega arith) (record { re = neg_ℤ c.im; im = c.re })))
turned-is (suc (suc zero)) h c = sym (next 1 c ∙ sym (turned-is (suc zero) (omega arith) (record { re = neg_ℤ c.im; im = c.re })))
turned-is (suc (suc (suc zero))) h c =
    by_parts (sym (neg_ℤ-neg_ℤ c.im)) refl ∙ sym (next 2 c ∙ sym (turned-is (suc (suc zero)) (omega arith) (record { re = neg_ℤ c.im; im = c.re })))
turned-is (suc (suc (suc (suc k)))) h c = absurd (omega arith)

-- ---- the sum over the block, as Gaussian integers

abbrev gauss : Complex ℤ → Gauss
gauss c = record { re = c.re; im = c.im }

module _ (xs zs : List ℕ) (re im : List ℤ) (ket : ℕ) (at : ℕ → Bool) where
  abbrev partial : ℕ → Complex ℤ
  partial n = sum_over at plus (complex (pos 0) (pos 0)) (term_at xs zs re im ket) n

  pub same_sum : (n : ℕ) → gauss (partial n) ≡ sum_over at ◌⊕◌ g0 (adds xs zs re im ket) n
  unfolding sum_over
  same_sum zero = refl
  same_sum (suc n) = go (at n) (same_sum n)
    where
      k : ℕ
      k = exponent_of (get_or xs n 0) (get_or zs n 0) ket

      go : (b : Bool) → gauss (partial n) ≡ sum_over at ◌⊕◌ g0 (adds xs zs re im ket) n
          → gauss (step_if b (λ (s : Complex ℤ). plus s (term_at xs zs re im ket n)) (partial n)) ≡ step_if b (λ (s : Gauss). s ⊕ adds xs zs re im ket n) (sum_over at ◌⊕◌ g0 (adds xs zs re im ket) n)
      go true ih = ap₂ (λ (s u : Gauss). s ⊕ u) ih (turned-is k (omega arith) (coefficient re im n))
      go false ih = ih

-- ---- what the call answers

differ : {a b : ℤ} → Differ Refused NoBlock (Sum a b)
differ = record {
  numbers = λ j k e. let q : ◌≡◌ {A = Refusal} (record { 0 = j }) (record { 0 = k }) = cc in ap (λ (r : Refusal). r.0) q;
  refused_none = λ j e. let no : ◌≡◌ {A = ℕ} 0 1 = cc in omega arith;
  refused-sum = λ j e. let no : ◌≡◌ {A = ℕ} 0 1 = cc in omega arith;
  none-sum = λ e. let no : ◌≡◌ {A = ℕ} 0 1 = cc in omega arith;
}

module _ (n : ℕ) (xs zs : List ℕ) (re im : List ℤ) (bra ket : ℕ) where
  abbrev number : ℕ
  number = by_rank (term_lines n xs zs (length re) (length im) bra ket)

  pub entry_of : number ≡ 0 → Fit xs → Fit zs → bra < 2 ^ 64 → ket < 2 ^ 64
      → value_of (element_of n xs zs re im bra ket) ≡ operator n xs zs re im (state_of n bra) (state_of n ket)
  unfolding element_of
  entry_of e fx fz hb hk =
      rw e (go (has_a_block xs (bit_xor bra ket)) refl (operator-entry n xs zs re im bra ket (length re) (length im) e fx fz hb hk))
    where
      go : (b : Bool) → has_a_block xs (bit_xor bra ket) ≡ b → operator n xs zs re im (state_of n bra) (state_of n ket) ≡ sum_over (in_block xs (bit_xor bra ket)) ◌⊕◌ g0 (adds xs zs re im ket) (length xs)
          → value_of (element 0 b (block_sum xs zs re im (bit_xor bra ket) ket)) ≡ operator n xs zs re im (state_of n bra) (state_of n ket)
      go true h q = same_sum xs zs re im ket (in_block xs (bit_xor bra ket)) (length xs) ∙ sym q
      go false h q = sym (q ∙ sum-empty ◌⊕◌ g0 (adds xs zs re im ket) xs (bit_xor bra ket) h)

  pub mat-elem : {r : (Element ℤ)} → r ≡ element_of n xs zs re im bra ket → Fit xs → Fit zs → bra < 2 ^ 64 → ket < 2 ^ 64 → MatElem n xs zs re im bra ket r
  mat-elem e fx fz hb hk = record { answer = e; entry = λ z. ap value_of e ∙ entry_of z fx fz hb hk }

  -- ---- exactly when
  pub refused-when : (j : ℕ) → (element_of n xs zs re im bra ket ≡ Refused (suc j)) ↔ Given (suc j) (term_lines n xs zs (length re) (length im) bra ket)
  unfolding element_of
  refused-when = any-refused Refused NoBlock _ differ (term_lines n xs zs (length re) (length im) bra ket) (has_a_block xs (bit_xor bra ket))

  pub none-when : (element_of n xs zs re im bra ket ≡ NoBlock) ↔ ((number ≡ 0) × ((k : ℕ) → k < length xs → get_or xs k 0 ≡ bit_xor bra ket → ⊥))
  unfolding element_of
  none-when = any_none Refused NoBlock _ differ number xs (bit_xor bra ket)
