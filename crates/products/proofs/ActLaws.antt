-- A row acts on a state in place: of the state, words below i are the exclusive or with X and the others as they were, and the exponent so far with that
-- of the words from i on is the whole, mod 4 (`Turned`). Each word brings at most 3, so the sum stays small. Assumes nothing.
use Rattle.std.proofs.Common.{◌≡◌, ℕ, suc, ◌+◌, ◌*◌, ◌%◌, ◌<◌, ◌≤◌, Bool, List, ◌++◌, length, get_or, take, drop, set, sym, refl, ap, ◌∙◌, ap₂, add-one, arith, drop-cons}
use lib.Bits.{bit_xor}
use lib.Seq.{drop-length}
use Rattle.pauli.specs.Pauli.{act_phase}
use Rattle.encoding.specs.Words.{word, bits, unpack, unbits, pack}
use Rattle.products.specs.Leaves.{Acted}
use Rattle.encoding.proofs.WordLaws.{xors, Fit, pack-b, unbits-act, unbits-total}
use Rattle.products.proofs.RowLaws.{word_more, all_of, length-xors, fit-xors, front_at}

-- the exponent of the words from i on
abbrev rest : List ℕ → List ℕ → List ℕ → ℕ → ℕ
rest lx lz st i = act_phase (unpack (drop i lx) (drop i lz)) (unbits (drop i st))

pub record Turned (lx lz st₀ st : List ℕ) (e i : ℕ) : Type 0 where
  pub small : e ≤ 3 * i
  pub words : st ≡ take i (xors lx st₀) ++ drop i st₀
  pub exponent : (e + rest lx lz st₀ i) % 4 ≡ act_phase (unpack lx lz) (unbits st₀) % 4

module _ (lx lz st₀ : List ℕ) (hz : length lz ≡ length lx) (hs : length st₀ ≡ length lx) where
  rest-none : rest lx lz st₀ (length lx) ≡ 0
  unfolding unpack
  rest-none = ap (λ (l : List ℕ). act_phase (unpack l (drop (length lx) lz)) (unbits (drop (length lx) st₀))) (drop-length lx)

  rest_more : (i : ℕ) → i < length lx
      → rest lx lz st₀ i ≡ act_phase (word 64 (get_or lx i 0) (get_or lz i 0)) (bits 64 (get_or st₀ i 0)) + rest lx lz st₀ (i + 1)
  rest_more i h =
      rw (add-one i, drop-cons lx i 0 h, drop-cons lz i 0 (omega arith), drop-cons st₀ i 0 (omega arith))
      (unbits-total (get_or lx i 0) (get_or lz i 0) (get_or st₀ i 0) (drop (suc i) lx) (drop (suc i) lz) (drop (suc i) st₀))

  pub turned_more : {st : List ℕ} {e i : ℕ} (p : ℕ) → Turned lx lz st₀ st e i → i < length lx
      → p ≡ act_phase (word 64 (get_or lx i 0) (get_or lz i 0)) (bits 64 (get_or st i 0)) % 4
      → Turned lx lz st₀ (set st i (bit_xor (get_or lx i 0) (get_or st i 0))) (e + p) (i + 1)
  turned_more {st} {e} {i} p t h q =
      let at : get_or st i 0 ≡ get_or st₀ i 0 =
      ap (λ (l : List ℕ). get_or l i 0) t.words ∙ front_at (xors lx st₀) st₀ i (omega (arith, length-xors lx st₀ hs)) in
      let q' : p ≡ act_phase (word 64 (get_or lx i 0) (get_or lz i 0)) (bits 64 (get_or st₀ i 0)) % 4 = rw at at q in
      record {
        small = omega arith;
        words = ap (λ (v : ℕ). set st i (bit_xor (get_or lx i 0) v)) at ∙ word_more (length lx) lx st₀ st₀ st i refl hs hs h t.words;
        exponent = omega (arith, rest_more i h);
      }

  pub turned-all : {st : List ℕ} {e i : ℕ} → Turned lx lz st₀ st e i → i ≡ length lx → Fit lx → Fit st₀ → Acted lx lz st₀ st (e % 4)
  turned-all {st} {e} {i} t end f g =
      let b : Bool → Bool = λ x. x in
      record {
        state =
            all_of (length lx) lx st₀ st₀ st i refl hs hs end t.words ∙ sym (pack-b (xors lx st₀) (fit-xors lx st₀ hs f g))
            ∙ ap₂ (pack b) (length-xors lx st₀ hs) (unbits-act lx lz st₀ hz);
        exponent = omega (arith, ap (rest lx lz st₀) end ∙ rest-none);
      }
