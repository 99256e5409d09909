-- The lines of the table: tested in two parts, and what it tells that none of them fits the terms. Assumes nothing.
-- The first part's number comes first (`rank-append`); from number 0 each test is false, and that gives lengths, limits and order.
use Rattle.std.proofs.Common.{◌≡◌, ℕ, ◌≤◌, Bool, false, not, ◌||◌, eqb, ltb, List, length, sym, refl, ap, ◌∙◌, ap₂, subst, Result, Ok, Err, arith, ltb-false, eqb-true}
use borrow.Author.Tests.{not-false}
use lib.Bits.{bit_xor}
use Rattle.encoding.specs.Ranks.{by_rank}
use Rattle.encoding.specs.Refusals.{done_or}
use Rattle.encoding.specs.declared.Refusal.{Refusal}
use Rattle.encoding.proofs.Faults.{or_else, or-none, first_by, next_by, passed-by, value-is, refusing, passing}
use Rattle.encoding.proofs.Ranks.{none-holds, rank-append}
use Rattle.encoding.proofs.Scan.{none_of}
use Rattle.mat_elem.specs.Terms.{least_qubits, most_qubits, max_terms, too_many, unlike_lengths, set_from, high_bits, falls, lines_to10, term_lines}
use Rattle.mat_elem.specs.Workers.{shape_lines, word_lines, place_of, found_of, BlockOf, PartOf}
use Rattle.mat_elem.specs.declared.Place.{Place}
use Rattle.mat_elem.proofs.Places.{block_of}

pub record Shape (n m z reals imags : ℕ) : Type 0 where
  pub least : least_qubits ≤ n
  pub most : n ≤ most_qubits
  pub short : m ≤ max_terms
  pub z-long : z ≡ m
  pub re-long : reals ≡ m
  pub im-long : imags ≡ m

-- what is known where the lines 1 to 3 do not fit, of the terms and of what stands beside them
pub record Shaped (n m z reals imags : ℕ) (many unequal : Bool) : Type 0 where
  pub shape : Shape n m z reals imags
  pub not-many : many ≡ false
  pub equal : unequal ≡ false

pub shape-sound : (n m z reals imags : ℕ) (many unequal : Bool) → by_rank (shape_lines n m z reals imags many unequal) ≡ 0 → Shaped n m z reals imags many unequal
shape-sound n m z reals imags many unequal e =
    let no = none-holds (shape_lines n m z reals imags many unequal) refl e in
    let two = none_of many (too_many m) (no 1) in
    let three = none_of unequal (unlike_lengths m z reals imags) (no 2) in
    let zr = none_of (not (eqb z m) || not (eqb reals m)) (not (eqb imags m)) three.1 in
    let zs = none_of (not (eqb z m)) (not (eqb reals m)) zr.0 in
    let r = none_of (ltb n least_qubits) (ltb most_qubits n) (no 0) in
    record {
      shape = record {
        least = ltb-false n least_qubits r.0;
        most = ltb-false most_qubits n r.1;
        short = ltb-false max_terms m two.1;
        z-long = eqb-true z m (not-false _ zs.0);
        re-long = eqb-true reals m (not-false _ zs.1);
        im-long = eqb-true imags m (not-false _ zr.1);
      };
      not-many = two.0;
      equal = three.0;
    }

-- what is known of terms of which nothing is refused
pub record Sound (n : ℕ) (xs zs : List ℕ) (reals imags : ℕ) (many unequal beside : Bool) : Type 0 where
  pub shape : Shape n (length xs) (length zs) reals imags
  pub not-many : many ≡ false
  pub equal : unequal ≡ false
  pub low : high_bits n xs zs beside ≡ false
  pub rising : falls xs ≡ false

module _ (n : ℕ) (xs zs : List ℕ) (reals imags : ℕ) (many unequal beside : Bool) where
  abbrev shape_no : ℕ
  shape_no = by_rank (shape_lines n (length xs) (length zs) reals imags many unequal)

  abbrev word_no : ℕ
  word_no = by_rank (word_lines n xs zs beside)

  abbrev line_no : ℕ
  line_no = by_rank (lines_to10 n xs zs reals imags many unequal beside)

  both : line_no ≡ or_else shape_no word_no
  both = rank-append (shape_lines n (length xs) (length zs) reals imags many unequal) (word_lines n xs zs beside) refl

  -- ---- the answer, from the two parts
  pub lines_shape : {r : Result Unit Refusal} {e : Refusal} → r ≡ done_or shape_no → r ≡ Err e → Err e ≡ done_or line_no
  lines_shape by h = first_by shape_no word_no tt by h tt ∙ ap done_or (sym both)

  pub lines_words : {r t : Result Unit Refusal} {u : Unit} → r ≡ done_or shape_no → r ≡ Ok u → t ≡ done_or word_no → t ≡ done_or line_no
  lines_words by h e = next_by shape_no word_no tt by h tt e ∙ ap done_or (sym both)

  -- so there are as many Z words as X words
  pub same_lengths : {r : Result Unit Refusal} {u : Unit} → r ≡ done_or shape_no → r ≡ Ok u → length zs ≡ length xs
  same_lengths by h = (shape-sound n (length xs) (length zs) reals imags many unequal (passed-by shape_no tt (sym h ∙ by))).shape.z-long

  -- ---- no line fits
  pub lines-sound : line_no ≡ 0 → Sound n xs zs reals imags many unequal beside
  lines-sound e =
      let o = or-none shape_no word_no (sym both ∙ e) in
      let no = none-holds (word_lines n xs zs beside) refl o.1 in
      let s = shape-sound n (length xs) (length zs) reals imags many unequal o.0 in
      record { shape = s.shape; not-many = s.not-many; equal = s.equal; low = no 0; rising = no 1 }

-- ---- one bra and one ket
module _ (n : ℕ) (xs zs : List ℕ) (reals imags bra ket : ℕ) where
  pub sound : by_rank (term_lines n xs zs reals imags bra ket) ≡ 0 → Sound n xs zs reals imags false false (set_from n bra || set_from n ket)
  sound = lines-sound n xs zs reals imags false false (set_from n bra || set_from n ket)

  pub number_is : {p q : Bool} {r : Result Unit Refusal} → p ≡ set_from n bra → q ≡ set_from n ket → r ≡ done_or (by_rank (lines_to10 n xs zs reals imags false false (p || q)))
      → r ≡ done_or (by_rank (term_lines n xs zs reals imags bra ket))
  number_is e f g = g ∙ ap₂ (λ (x y : Bool). done_or (by_rank (lines_to10 n xs zs reals imags false false (x || y)))) e f

  abbrev number : ℕ
  number = by_rank (term_lines n xs zs reals imags bra ket)

  -- ---- what is found
  pub found_refused : {r : Result Unit Refusal} {e : Refusal} → r ≡ done_or number → r ≡ Err e → Err e ≡ found_of n xs zs reals imags bra ket
  unfolding found_of
  found_refused by h = refusing number tt by h (place_of xs (bit_xor bra ket))

  pub found_rising : {r : Result Unit Refusal} {u : Unit} → r ≡ done_or number → r ≡ Ok u → falls xs ≡ false
  found_rising by h = (sound (passed-by number tt (sym h ∙ by))).rising

  pub found_none : {r : Result Unit Refusal} {u : Unit} → r ≡ done_or number → r ≡ Ok u → {p : Place} → p ≡ place_of xs (bit_xor bra ket)
      → Ok p ≡ found_of n xs zs reals imags bra ket
  unfolding found_of
  found_none by h q = ap Ok q ∙ passing number tt by h (place_of xs (bit_xor bra ket))

  -- ---- what a caller learns from it
  pub found-block : {p : Place} → found_of n xs zs reals imags bra ket ≡ Ok p → (number ≡ 0) × BlockOf xs (bit_xor bra ket) p.first p.last
  unfolding found_of
  found-block {p} e =
      let v = value-is number (place_of xs (bit_xor bra ket)) p e in
      (v.0, subst (λ (q : Place). BlockOf xs (bit_xor bra ket) q.first q.last) v.1 (block_of xs (bit_xor bra ket) (sound v.0).rising))

  pub found_part : {p : Place} → found_of n xs zs reals imags bra ket ≡ Ok p → PartOf p.first p.last (length xs) (length zs) reals imags
  found_part e =
      let f = found-block e in
      let s = (sound f.0).shape in
      let b = f.1 in
      record { ordered = b.ordered; in-x = b.within; in-z = omega arith; in-re = omega arith; in-im = omega arith; few = omega arith }

  -- and that there are as many imaginary parts as real ones
  pub found_parts : {p : Place} → found_of n xs zs reals imags bra ket ≡ Ok p → imags ≡ reals
  found_parts e = let s = (sound (found-block e).0).shape in s.im-long ∙ sym s.re-long
