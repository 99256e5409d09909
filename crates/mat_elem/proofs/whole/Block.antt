-- The sum over a block of whole numbers, how large it can be, and what the call answers. Assumes nothing.
-- Of 65,536 terms at most, each of i32 parts, no sum leaves i64 (`sum-within`), and none refuses the call (`span-is`).
use Rattle.std.proofs.Common.{◌≡◌, ℕ, zero, suc, ◌<◌, ◌≤◌, Bool, true, false, cond, leb, List, length, ℤ, pos, Some, Result, Ok, Err, sym, refl, ap, ◌∙◌, arith}
use borrow.Author.Tests.{leb-true, leb-false}
use lib.Bits.{bit_xor}
use Rattle.encoding.proofs.Scan.{any-never, some-never}
use Rattle.checked.specs.declared.Complex.{Complex}
use Rattle.encoding.specs.Ranks.{by_rank}
use Rattle.mat_elem.specs.Terms.{max_terms, term_lines, has_a_block, falls}
use Rattle.mat_elem.specs.Workers.{found_of, sum_max, Within, reaches, block_from, block_to, place_of, PartOf, Ready}
use Rattle.mat_elem.specs.Numbers.{wholes, none, span_sum, wild, span_of, sum_or, answer_by, answer_of}
use Rattle.mat_elem.specs.whole.Sums.{plus, term_at, block_sum, element, element_of}
use Rattle.mat_elem.specs.declared.Place.{Place}
use Rattle.encoding.specs.declared.Refusal.{Refusal}
use Rattle.encoding.specs.Refusals.{answer_or}
use Rattle.mat_elem.specs.Sums.{Element, Sum, NoBlock}
use Rattle.mat_elem.proofs.Places.{block_of}
use Rattle.mat_elem.proofs.Faults.{found-block}
use Rattle.mat_elem.proofs.SumLaws.{block-range, has_block, no_block}
use Rattle.mat_elem.proofs.Span.{Summed}
use Rattle.mat_elem.proofs.whole.Size.{sum-small}

-- ---- the loop: every sum of whole numbers is sound, and none leaves i64
module _ (xs zs : List ℕ) (re im : List ℤ) (ket first last : ℕ) where
  pub span-is : span_of wholes xs zs re im ket first last ≡ Some (span_sum wholes xs zs re im ket first last)
  unfolding span_of
  span-is = rw (any-never (λ n. false) (suc last) (λ k l. refl))

  pub sum-within : {i : ℕ} {s : Complex ℤ} → Summed wholes reaches xs zs re im ket first last i s → last ≤ max_terms → Within sum_max s
  sum-within {i} {s} m h = record { re-le = sum-small i s.re (omega (arith, m.le)) m.re-reaches; im-le = sum-small i s.im (omega (arith, m.le)) m.im-reaches }

wild-never : (re im : List ℤ) → wild wholes re im ≡ false
wild-never re im = rw (some-never (λ (z : ℤ). false) (pos 0) re (λ k l. refl), some-never (λ (z : ℤ). false) (pos 0) im (λ k l. refl))

-- ---- what the call answers, by what was found
module _ (n : ℕ) (xs zs : List ℕ) (re im : List ℤ) (bra ket : ℕ) where
  abbrev found : Result Place Refusal
  found = found_of n xs zs (length re) (length im) bra ket

  pub answer-refused : {e : Refusal} → found ≡ Err e → Err e ≡ element_of n xs zs re im bra ket
  unfolding element_of found_of answer_or
  answer-refused {e} h = go (by_rank (term_lines n xs zs (length re) (length im) bra ket)) h
    where
      go : (k : ℕ) → answer_or k (place_of xs (bit_xor bra ket)) ≡ Err e → Err e ≡ element k (has_a_block xs (bit_xor bra ket)) (block_sum xs zs re im (bit_xor bra ket) ket)
      go zero h = cc
      go (suc k) h = let q : e ≡ record { 0 = suc k } = cc in ap (λ (r : Refusal). Err r) q

  module _ (p : Place) (e : found ≡ Ok p) where
    abbrev first : ℕ
    first = p.first

    abbrev last : ℕ
    last = p.last

    pub answer-none : last ≤ first → NoBlock ≡ element_of n xs zs re im bra ket
    unfolding element_of
    answer-none h =
        let f = found-block n xs zs (length re) (length im) bra ket e in
        rw (f.0, no_block xs (bit_xor bra ket) first last f.1 h)

    pub answer-sum : first < last → {s : (Complex ℤ)} → s ≡ span_sum wholes xs zs re im ket first last → Sum s.re s.im ≡ element_of n xs zs re im bra ket
    unfolding element_of
    answer-sum h {s} q =
        let f = found-block n xs zs (length re) (length im) bra ket e in
        rw (f.0, has_block xs (bit_xor bra ket) first last f.1 h, block-range plus (none wholes) (term_at xs zs re im ket) xs (bit_xor bra ket) first last f.1, q)

  pub answer-is : {r : Element ℤ} → r ≡ answer_of wholes n xs zs re im bra ket → r ≡ element_of n xs zs re im bra ket
  answer-is {r} q = q ∙ go found refl
    where
      place : (p : Place) → found ≡ Ok p → (b : Bool) → leb p.last p.first ≡ b
          → cond b NoBlock (sum_or wholes (span_of wholes xs zs re im ket p.first p.last)) ≡ element_of n xs zs re im bra ket
      place p e true h = answer-none p e (leb-true p.last p.first h)
      place p e false h = rw (span-is xs zs re im ket p.first p.last) (answer-sum p e (leb-false p.last p.first h) refl)

      go : (f : Result Place Refusal) → found ≡ f → answer_by wholes f xs zs re im ket ≡ element_of n xs zs re im bra ket
      go (Err r) e = answer-refused e
      go (Ok p) e = rw (wild-never re im) (place p e (leb p.last p.first) refl)

-- ---- the element between two words, of terms that were tested
module _ (xs : List ℕ) (t : ℕ) {p : Place} (e : p ≡ place_of xs t) where
  pub part-ready : {z reals imags : ℕ} → Ready xs z reals imags → PartOf p.first p.last (length xs) z reals imags
  part-ready r =
      let b = block_of xs t r.rising in
      rw e
      (record {
        ordered = b.ordered;
        in-x = b.within;
        in-z = omega (arith, b.within, r.z-long);
        in-re = omega (arith, b.within, r.re-long);
        in-im = omega (arith, b.within, r.im-long);
        few = omega (arith, b.within, r.few);
      })

  pub element-ready : (zs : List ℕ) (re im : List ℤ) (ket : ℕ) → falls xs ≡ false → {s : (Complex ℤ)} → s ≡ span_sum wholes xs zs re im ket p.first p.last → s ≡ block_sum xs zs re im t ket
  element-ready zs re im ket h q =
      q ∙ ap (λ (o : Place). span_sum wholes xs zs re im ket o.first o.last) e
      ∙ sym (block-range plus (none wholes) (term_at xs zs re im ket) xs t (block_from xs t) (block_to xs t) (block_of xs t h))
