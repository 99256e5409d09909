-- Counting Paulis by counts of ones in masked words. That a mask finds one Pauli is a computed test over the bits of a place; words are counted one after the
-- other (`Tallied`), and at n and above there is I, which no mask counts. Assumes nothing.
use mathlib.Core.Path.{◌≡◌, refl, sym, ap, ap₂, ◌∙◌, subst}
use mathlib.Core.Bool.{Bool, true, false, cond}
use mathlib.Core.List.{List, [], ◌∷◌, ◌++◌}
use Prim.Native.Nat.{ℕ, zero, suc, ◌+◌, ◌*◌, ◌/◌, ◌^◌, ◌≤◌, ◌<◌, zero-le}
use native.Mathlib.Nat.{zero-add}
use native.Mathlib.Numerals.{add-one}
use native.Mathlib.Omega.{arith}
use lib.Dec.{T, eqb, leb, eqb→eq, leb→le}
use lib.Pow.{pow_pos}
use lib.ListN.{length, get_or, take, drop}
use lib.Seq.{drop-cons, drop-length}
use Rattle.pauli.specs.Pauli.{Pauli, of_bits}
use Rattle.pauli.specs.declared.PauliMatrix.TheVariants.{I, X, Y, Z}
use Rattle.pauli.specs.Row.{Row, eq_p}
use Rattle.pauli.specs.Rows.{holding, count_of}
use Rattle.pauli.proofs.Every.{every_p, at_p}
use Rattle.encoding.specs.Words.{odd, bit, word, unpack}
use Rattle.encoding.specs.Set.{Mem, count, rows_held, Valid}
use Rattle.encoding.proofs.Memory.{clean, row_count}
use Rattle.encoding.proofs.Padding.{Only}
use Rattle.encoding.proofs.RowWords.{in_words, first-n}
use Rattle.products.proofs.Masks.{Mask, var, inv, both, either, Below, counted, place, places, every_l, counts}
use Rattle.cmpnt_list.specs.Workers.{masked, from_masks}

-- ---- what the masks count of a list, Pauli by Pauli

-- one Pauli more
step : (b : Bool) (k : ℕ) → cond b (suc k) k ≡ bit b + k
step true k = omega arith
step false k = omega arith

holding-cons : (p q : Pauli) (l : List Pauli) → holding p (q ∷ l) ≡ bit (eq_p p q) + holding p l
unfolding holding
holding-cons p q l = step (eq_p p q) (holding p l)

abbrev one : Pauli → Pauli → ℕ
one I q = bit (eq_p X q) + bit (eq_p Y q) + bit (eq_p Z q)
one X q = bit (eq_p X q)
one Y q = bit (eq_p Y q)
one Z q = bit (eq_p Z q)

masked-cons : (p q : Pauli) (l : List Pauli) → masked p (q ∷ l) ≡ one p q + masked p l
unfolding masked
masked-cons I q l = omega (arith, holding-cons X q l, holding-cons Y q l, holding-cons Z q l)
masked-cons X q l = holding-cons X q l
masked-cons Y q l = holding-cons Y q l
masked-cons Z q l = holding-cons Z q l

masked-none : (p : Pauli) → masked p [] ≡ 0
unfolding masked holding
masked-none I = refl
masked-none X = refl
masked-none Y = refl
masked-none Z = refl

one_none : (p : Pauli) → one p I ≡ 0
one_none p = eqb→eq (one p I) 0 (at_p (λ p. eqb (one p I) 0) tt p)

one-le : (p q : Pauli) → one p q ≤ 1
one-le p q = leb→le (one p q) 1 (at_p (λ q. leb (one p q) 1) (at_p (λ p. every_p (λ q. leb (one p q) 1)) tt p) q)

masked-append : (p : Pauli) (a b : List Pauli) → masked p (a ++ b) ≡ masked p a + masked p b
masked-append p [] b = omega (arith, masked-none p)
masked-append p (q ∷ a) b = omega (arith, masked-cons p q (a ++ b), masked-cons p q a, masked-append p a b)

masked-le : (p : Pauli) (l : List Pauli) → masked p l ≤ length l
masked-le p [] = omega (arith, masked-none p)
masked-le p (q ∷ l) = omega (arith, masked-cons p q l, one-le p q, masked-le p l)

-- I at n and above counts for nothing
masked-take : (p : Pauli) (n : ℕ) (l : List Pauli) → Only I (drop n l) → masked p l ≡ masked p (take n l)
masked-take p zero [] h = refl
masked-take p zero (q ∷ l) h = masked-cons p q l ∙ ap₂ ◌+◌ (ap (one p) (h 0) ∙ one_none p) (masked-take p zero l (λ k. h (suc k)) ∙ masked-none p) ∙ sym (masked-none p)
masked-take p (suc n) [] h = refl
masked-take p (suc n) (q ∷ l) h = masked-cons p q l ∙ ap (λ (k : ℕ). one p q + k) (masked-take p n l h) ∙ sym (masked-cons p q (take n l))

-- ---- one word

below₂ : (d : ℕ) {a b : ℕ} → a < 2 ^ d → b < 2 ^ d → Below d (a ∷ b ∷ [])
below₂ d ha hb zero = ha
below₂ d ha hb (suc zero) = hb
below₂ d ha hb (suc (suc k)) = pow_pos d

abbrev at₂ : List Bool → Pauli
at₂ bs = of_bits (get_or bs 0 false) (get_or bs 1 false)

masked-places : (p : Pauli) (d a b : ℕ) → places d (λ bs. one p (at₂ bs)) (a ∷ b ∷ []) ≡ masked p (word d a b)
unfolding places word
masked-places p zero a b = sym (masked-none p)
masked-places p (suc d) a b =
    ap (λ (k : ℕ). one p (of_bits (odd a) (odd b)) + k) (masked-places p d (a / 2) (b / 2)) ∙ sym (masked-cons p (of_bits (odd a) (odd b)) (word d (a / 2) (b / 2)))

-- the mask of a Pauli
abbrev mask_of : Pauli → Mask
mask_of I = either (var 0) (var 1)
mask_of X = both (var 0) (inv (var 1))
mask_of Y = both (var 0) (var 1)
mask_of Z = both (inv (var 0)) (var 1)

pub word_count : (p : Pauli) → T (every_l 2 (λ bs. eqb (place bs ((1, mask_of p) ∷ [])) (one p (at₂ bs))))
    → {x z : ℕ} → x < 2 ^ 64 → z < 2 ^ 64 → counted 64 (x ∷ z ∷ []) ((1, mask_of p) ∷ []) ≡ masked p (word 64 x z)
word_count p t {x} {z} hx hz =
    counts ((1, mask_of p) ∷ []) (λ bs. one p (at₂ bs)) 2 t 64 (x ∷ z ∷ []) refl (below₂ 64 hx hz) ∙ masked-places p 64 x z

-- ---- a run of words, i of them counted

pub record Tallied (p : Pauli) (xs zs : List ℕ) (k i : ℕ) : Type 0 where
  pub le : i ≤ length xs
  pub small : k ≤ 64 * i
  pub whole : k + masked p (unpack (drop i xs) (drop i zs)) ≡ masked p (unpack xs zs)

module _ (p : Pauli) (xs zs : List ℕ) (e : length zs ≡ length xs) where
  pub tallied-none : Tallied p xs zs 0 0
  tallied-none = record { le = zero-le; small = zero-le; whole = zero-add (masked p (unpack xs zs)) }

  pub tallied-more : {k i : ℕ} (j : ℕ) → Tallied p xs zs k i → i < length xs → (j ≡ masked p (word 64 (get_or xs i 0) (get_or zs i 0))) × (j ≤ 64) → Tallied p xs zs (k + j) (i + 1)
  unfolding unpack
  tallied-more {k} {i} j t h q =
      let s : masked p (unpack (drop i xs) (drop i zs)) ≡ masked p (word 64 (get_or xs i 0) (get_or zs i 0)) + masked p (unpack (drop (i + 1) xs) (drop (i + 1) zs)) =
      rw (add-one i, drop-cons xs i 0 h, drop-cons zs i 0 (subst (λ (n : ℕ). i < n) (sym e) h)) (masked-append p (word 64 (get_or xs i 0) (get_or zs i 0)) (unpack (drop (suc i) xs) (drop (suc i) zs))) in
      record { le = omega arith; small = omega (arith, t.small, q.1); whole = omega (arith, s, t.whole, q.0) }

  pub tallied-all : {k i : ℕ} → Tallied p xs zs k i → length xs ≤ i → k ≡ masked p (unpack xs zs)
  unfolding unpack
  tallied-all {k} {i} t h =
      let end : i ≡ length xs = omega (arith, t.le) in
      let none : masked p (unpack (drop i xs) (drop i zs)) ≡ 0 =
      ap (λ (n : ℕ). masked p (unpack (drop n xs) (drop n zs))) end ∙ ap (λ (l : List ℕ). masked p (unpack l (drop (length xs) zs))) (drop-length xs) ∙ masked-none p in
      omega (arith, t.whole, none)

-- ---- the n qubits of a row

from-masks : (n : ℕ) (p : Pauli) (r : Row) → from_masks p n (masked p (take n r.ps)) ≡ count_of n p r
unfolding count_of masked
from-masks n I r = refl
from-masks n X r = refl
from-masks n Y r = refl
from-masks n Z r = refl

pub counted-row : (n w : ℕ) {M : Mem} → Valid n w M → (r : ℕ) → r < count M → (p : Pauli) {k : ℕ}
    → k ≡ masked p (in_words w M r) → (from_masks p n k ≡ count_of n p (rows_held n w M r)) × (k ≤ n)
unfolding rows_held
counted-row n w {M} v r h p {k} q =
    let u = in_words w M r in
    let c : k ≡ masked p (take n u) = q ∙ masked-take p n u (clean n w v r h) in (
      ap (from_masks p n) (c ∙ ap (masked p) (first-n n w M r)) ∙ from-masks n p (rows_held n w M r),
      omega (arith, masked-le p (take n u), row_count n w v r h),
    )
