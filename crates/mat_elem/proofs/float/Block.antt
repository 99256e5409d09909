-- What the call answers in floats: a number of 1 to 10, 11, no block, 12, or the sum; past the block no partial sum changes. Assumes nothing.
use Rattle.std.proofs.Common.{◌≡◌, ℕ, zero, suc, ◌<◌, ◌≤◌, Bool, true, false, cond, leb, Some, None, Result, Ok, Err, List, [], ◌∷◌, ◌++◌, length, refl, ap, ◌∙◌}
use borrow.Author.Tests.{leb-true, leb-false}
use lib.Bits.{bit_xor}
use lib.Ieee.{Float}
use Rattle.encoding.specs.Refusals.{some_below, answer_or}
use Rattle.encoding.specs.Ranks.{TableLine, line, by_rank}
use Rattle.encoding.proofs.Faults.{or_else}
use Rattle.encoding.proofs.Ranks.{rank-append}
use Rattle.mat_elem.specs.Terms.{term_lines, has_a_block}
use Rattle.mat_elem.specs.Workers.{place_of, found_of}
use Rattle.mat_elem.specs.Numbers.{floats, none, span_sum, span_of, sum_or, answer_by, answer_of}
use Rattle.mat_elem.specs.declared.Place.{Place}
use Rattle.encoding.specs.declared.Refusal.{Refusal}
use Rattle.mat_elem.specs.Sums.{Element, NoBlock, Refused}
use Rattle.mat_elem.proofs.Faults.{found-block}
use Rattle.mat_elem.proofs.Span.{bad, none-bad}
use Rattle.mat_elem.proofs.SumLaws.{block-range, block-some, has_block, no_block}
use Rattle.mat_elem.specs.float.Sums.{plus, term_at, sum_to, wild, overflows, element, element_of}

-- ---- the call
module _ (n : ℕ) (xs zs : List ℕ) (re im : List Float) (bra ket : ℕ) where
  abbrev terms : List TableLine
  terms = term_lines n xs zs (length re) (length im) bra ket

  -- the number of a call, by the lines 1 to 10, by 11 and by 12
  pub number_is : (b : Bool) → by_rank (terms ++ line 11 (wild re im) ∷ line 12 b ∷ []) ≡ or_else (or_else (by_rank terms) (by_rank (line 11 (wild re im) ∷ []))) (by_rank (line 12 b ∷ []))
  number_is b = rank-append (terms ++ line 11 (wild re im) ∷ []) (line 12 b ∷ []) refl ∙ ap (λ (k : ℕ). or_else k (by_rank (line 12 b ∷ []))) (rank-append terms (line 11 (wild re im) ∷ []) refl)

  abbrev found : Result Place Refusal
  found = found_of n xs zs (length re) (length im) bra ket

  pub answer-refused : {e : Refusal} → found ≡ Err e → Err e ≡ element_of n xs zs re im bra ket
  unfolding element_of found_of answer_or
  answer-refused {e} h =
      rw (number_is (overflows xs zs re im (bit_xor bra ket) ket)) (go (by_rank terms) h)
    where
      go : (k : ℕ) → answer_or k (place_of xs (bit_xor bra ket)) ≡ Err e
          → Err e ≡ element (or_else (or_else k (by_rank (line 11 (wild re im) ∷ []))) (by_rank (line 12 (overflows xs zs re im (bit_xor bra ket) ket) ∷ []))) (has_a_block xs (bit_xor bra ket)) (sum_to xs zs re im (bit_xor bra ket) ket (length xs))
      go zero h = cc
      go (suc k) h = let q : e ≡ record { 0 = suc k } = cc in ap (λ (r : Refusal). Err r) q

  module _ (p : Place) (e : found ≡ Ok p) where
    abbrev first : ℕ
    first = p.first

    abbrev last : ℕ
    last = p.last

    pub answer-wild : wild re im ≡ true → Refused 11 ≡ element_of n xs zs re im bra ket
    unfolding element_of by_rank
    answer-wild w = rw (number_is (overflows xs zs re im (bit_xor bra ket) ket), (found-block n xs zs (length re) (length im) bra ket e).0, w)

    over : overflows xs zs re im (bit_xor bra ket) ket ≡ some_below (suc last) (λ n. bad floats (span_sum floats xs zs re im ket first n))
    unfolding overflows
    over = block-some plus (none floats) (term_at xs zs re im ket) xs (bit_xor bra ket) first last (found-block n xs zs (length re) (length im) bra ket e).1 (bad floats)

    pub answer-none : wild re im ≡ false → last ≤ first → NoBlock ≡ element_of n xs zs re im bra ket
    unfolding element_of by_rank
    answer-none w h =
        let f = found-block n xs zs (length re) (length im) bra ket e in
        rw (number_is (overflows xs zs re im (bit_xor bra ket) ket), f.0, w, over, none-bad floats xs zs re im ket first refl last h, no_block xs (bit_xor bra ket) first last f.1 h)

    pub answer-sum : wild re im ≡ false → first < last → {r : Element Float} → r ≡ sum_or floats (span_of floats xs zs re im ket first last) → r ≡ element_of n xs zs re im bra ket
    unfolding element_of by_rank span_of
    answer-sum w h q =
        let f = found-block n xs zs (length re) (length im) bra ket e in
        rw (number_is (overflows xs zs re im (bit_xor bra ket) ket), f.0, w, over, has_block xs (bit_xor bra ket) first last f.1 h, block-range plus (none floats) (term_at xs zs re im ket) xs (bit_xor bra ket) first last f.1)
        (q ∙ go (some_below (suc last) (λ n. bad floats (span_sum floats xs zs re im ket first n))))
      where
        go : (b : Bool) → sum_or floats (cond b None (Some (span_sum floats xs zs re im ket first last))) ≡ element (or_else (or_else 0 (cond false 11 0)) (cond b 12 0)) true (span_sum floats xs zs re im ket first last)
        go true = refl
        go false = refl

  pub answer-is : {r : Element Float} → r ≡ answer_of floats n xs zs re im bra ket → r ≡ element_of n xs zs re im bra ket
  answer-is {r} q = q ∙ go found refl
    where
      place : (p : Place) → found ≡ Ok p → wild re im ≡ false → (b : Bool) → leb p.last p.first ≡ b
          → cond b NoBlock (sum_or floats (span_of floats xs zs re im ket p.first p.last)) ≡ element_of n xs zs re im bra ket
      place p e w true h = answer-none p e w (leb-true p.last p.first h)
      place p e w false h = answer-sum p e w (leb-false p.last p.first h) refl

      tested : (p : Place) → found ≡ Ok p → (b : Bool) → wild re im ≡ b
          → cond b (Refused 11) (cond (leb p.last p.first) NoBlock (sum_or floats (span_of floats xs zs re im ket p.first p.last))) ≡ element_of n xs zs re im bra ket
      tested p e true w = answer-wild p e w
      tested p e false w = place p e w (leb p.last p.first) refl

      go : (f : Result Place Refusal) → found ≡ f → answer_by floats f xs zs re im ket ≡ element_of n xs zs re im bra ket
      go (Err r) e = answer-refused e
      go (Ok p) e = tested p e (wild re im) refl
