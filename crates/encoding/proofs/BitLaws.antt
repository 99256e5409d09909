-- Words are given by their bits; the bits of what was packed; what Paulis lie in words. A word is its lowest bit and its half, so that each law goes down by
-- halves, 64 places a word. Assumes nothing.
use mathlib.Core.Path.{◌≡◌, refl, sym, ap, ap₂, ◌∙◌}
use mathlib.Core.Bool.{Bool, false}
use mathlib.Core.List.{List, [], ◌∷◌, ◌++◌}
use Prim.Native.Nat.{ℕ, zero, suc, ◌+◌, ◌*◌, ◌/◌, ◌^◌, ◌<◌, suc-le-suc}
use native.Mathlib.Nat.{div-one, zero-div, not-suc-le-zero, le_of_suc-le-suc, suc-mul, zero-lt-suc}
use native.Mathlib.Numerals.{one-add}
use native.Mathlib.Omega.{arith}
use lib.Arith.{lt-one}
use lib.Pow.{shr-shr}
use lib.ListN.{length, get_or, take, drop, length-drop, take-append-drop, get_or-append}
use lib.Seq.{take-nil, get_or-append-add, get_or-take, get_or-drop, length-take-le}
use Rattle.pauli.specs.Pauli.{of_bits}
use Rattle.pauli.specs.declared.PauliMatrix.TheVariants.{I}
use Rattle.encoding.specs.Words.{odd, bit, bit_at, word, unpack, join, pack, lay_rows}
use Rattle.encoding.specs.Set.{list}
use Rattle.encoding.proofs.WordLaws.{Fit, back, half_lt, length-word, word-at, join-odd, join-half}
use Rattle.encoding.proofs.Parts.{fit-take, get_d_part, row-lay-list}

-- one half of a word, bit by bit
pub half-bit : (x k : ℕ) → odd (x / 2 / 2 ^ k) ≡ odd (x / 2 ^ suc k)
half-bit x k = ap odd (shr-shr x 1 k ∙ ap (λ (e : ℕ). x / 2 ^ e) (one-add k))

pub zero_bit : (k : ℕ) → odd (0 / 2 ^ k) ≡ false
zero_bit k = ap odd (zero-div (2 ^ k))

module _ {A : Type 0} (f : A → Bool) (d : A) (f0 : f d ≡ false) where
  pub join-of : (n x : ℕ) (ps : List A) → x < 2 ^ n → ((k : ℕ) → k < n → odd (x / 2 ^ k) ≡ f (get_or ps k d)) → x ≡ join f (take n ps)
  unfolding join
  join-of zero x ps h b = lt-one h
  join-of (suc n) x [] h b =
      sym (back x)
      ∙ ap₂ (λ (y : ℕ) (c : Bool). y * 2 + bit c)
      (join-of n (x / 2) [] (half_lt n h) (λ k l. half-bit x k ∙ b (suc k) (suc-le-suc l)) ∙ ap (join f) (take-nil n))
      (ap odd (sym (div-one x)) ∙ b 0 (zero-lt-suc n) ∙ f0)
  join-of (suc n) x (p ∷ ps) h b =
      sym (back x)
      ∙ ap₂ (λ (y : ℕ) (c : Bool). y * 2 + bit c)
      (join-of n (x / 2) ps (half_lt n h) (λ k l. half-bit x k ∙ b (suc k) (suc-le-suc l)))
      (ap odd (sym (div-one x)) ∙ b 0 (zero-lt-suc n))

  pub pack-of : (xs : List ℕ) (ps : List A) → Fit xs
      → ((j k : ℕ) → j < length xs → k < 64 → bit_at xs j k ≡ f (get_or ps (j * 64 + k) d)) → xs ≡ pack f (length xs) ps
  unfolding pack bit_at
  pack-of [] ps h b = refl
  pack-of (x ∷ xs) ps h b =
      ap₂ (λ (y : ℕ) (l : List ℕ). y ∷ l)
      (join-of 64 x ps (h 0).fits (λ k l. b 0 k (zero-lt-suc (length xs)) l ∙ ap (λ (c : ℕ). f (get_or ps c d)) (omega arith)))
      (pack-of xs (drop 64 ps) (λ k. h (suc k))
      (λ j k i l. b (suc j) k (suc-le-suc i) l ∙ ap f (ap (λ (c : ℕ). get_or ps c d) (omega (arith, suc-mul j 64)) ∙ sym (get_or-drop 64 ps (j * 64 + k) d))))

  -- THE LAW: words are those of the rows when their bits are
  pub lay-of : (w : ℕ) (rs : List (List A)) (xs : List ℕ) → length xs ≡ length rs * w → Fit xs
      → ((r j k : ℕ) → r < length rs → j < w → k < 64 → bit_at xs (r * w + j) k ≡ f (get_or (get_or rs r []) (j * 64 + k) d)) → xs ≡ lay_rows f w rs
  unfolding lay_rows bit_at
  lay-of w [] [] e h b = refl
  lay-of w [] (x ∷ xs) e h b = absurd (omega arith)
  lay-of w (ps ∷ rs) xs e h b =
      let lt : length (take w xs) ≡ w = length-take-le w xs (omega (arith, suc-mul (length rs) w)) in
      let ft : Fit (take w xs) = fit-take w xs h in
      sym (take-append-drop w xs)
      ∙ ap₂ (λ (u v : List ℕ). u ++ v)
      (pack-of (take w xs) ps ft
      (λ j k i l. ap (λ (n : ℕ). odd (n / 2 ^ k)) (get_or-take w xs j 0 (omega arith) ∙ ap (λ (n : ℕ). get_or xs n 0) (omega arith)) ∙ b 0 j k (zero-lt-suc (length rs)) (omega arith) l)
      ∙ ap (λ (n : ℕ). pack f n ps) lt)
      (lay-of w rs (drop w xs) (length-drop w xs ∙ omega (arith, suc-mul (length rs) w)) (λ k. rw (get_or-drop w xs k 0) (h (w + k)))
      (λ r j k g i l. ap (λ (n : ℕ). odd (n / 2 ^ k)) (get_or-drop w xs (r * w + j) 0 ∙ ap (λ (n : ℕ). get_or xs n 0) (omega (arith, suc-mul r w))) ∙ b (suc r) j k (suc-le-suc g) i l))

-- ---- bit k of word j of what was packed is that of element 64 j + k

module _ {A : Type 0} (f : A → Bool) (d : A) (f0 : f d ≡ false) where
  bit-none : (k : ℕ) → odd (join f [] / 2 ^ k) ≡ false
  unfolding join
  bit-none k = ap odd (zero-div (2 ^ k))

  bit-join : (ps : List A) (k : ℕ) → odd (join f ps / 2 ^ k) ≡ f (get_or ps k d)
  bit-join [] k = bit-none k ∙ sym f0
  bit-join (p ∷ ps) zero = ap odd (div-one (join f (p ∷ ps))) ∙ join-odd f p ps
  bit-join (p ∷ ps) (suc k) = sym (half-bit (join f (p ∷ ps)) k) ∙ ap (λ (x : ℕ). odd (x / 2 ^ k)) (join-half f p ps) ∙ bit-join ps k

  pub bit-pack : (w : ℕ) (ps : List A) (j k : ℕ) → j < w → k < 64 → bit_at (pack f w ps) j k ≡ f (get_or ps (j * 64 + k) d)
  unfolding pack bit_at
  bit-pack zero ps j k h l = absurd (not-suc-le-zero h)
  bit-pack (suc w) ps zero k h l =
      let e : k ≡ 0 * 64 + k = omega arith in
      bit-join (take 64 ps) k ∙ ap f (get_or-take 64 ps k d l ∙ ap (λ (i : ℕ). get_or ps i d) e)
  bit-pack (suc w) ps (suc j) k h l =
      let e : 64 + (j * 64 + k) ≡ suc j * 64 + k = omega (arith, suc-mul j 64) in
      bit-pack w (drop 64 ps) j k (le_of_suc-le-suc h) l ∙ ap f (get_or-drop 64 ps (j * 64 + k) d ∙ ap (λ (i : ℕ). get_or ps i d) e)

  -- of lists that were laid one after the other
  pub bit-lay : (w m : ℕ) (rows : ℕ → List A) (r j k : ℕ) → r < m → j < w → k < 64
      → bit_at (lay_rows f w (list m rows)) (r * w + j) k ≡ f (get_or (rows r) (j * 64 + k) d)
  unfolding bit_at
  bit-lay w m rows r j k h i l =
      let xs = lay_rows f w (list m rows) in
      ap (λ (x : ℕ). odd (x / 2 ^ k)) (sym (get_d_part (r * w) w xs j i) ∙ ap (λ (u : List ℕ). get_or u j 0) (row-lay-list f w m rows r h))
      ∙ bit-pack w (rows r) j k i l

-- qubit 64 j + k of a run of words is bit k of word j
pub unpack-at : (xs zs : List ℕ) (j k : ℕ) → j < length xs → j < length zs → k < 64
    → get_or (unpack xs zs) (j * 64 + k) I ≡ of_bits (bit_at xs j k) (bit_at zs j k)
unfolding unpack bit_at
unpack-at [] zs j k i e l = absurd (not-suc-le-zero i)
unpack-at (x ∷ xs) [] j k i e l = absurd (not-suc-le-zero e)
unpack-at (x ∷ xs) (z ∷ zs) zero k i e l =
    ap (λ (n : ℕ). get_or (word 64 x z ++ unpack xs zs) n I) (omega arith)
    ∙ get_or-append (word 64 x z) (unpack xs zs) I k (omega (arith, length-word 64 x z)) ∙ word-at 64 x z k l
unpack-at (x ∷ xs) (z ∷ zs) (suc j) k i e l =
    let q : suc j * 64 + k ≡ length (word 64 x z) + (j * 64 + k) = omega (arith, suc-mul j 64, length-word 64 x z) in
    ap (λ (n : ℕ). get_or (word 64 x z ++ unpack xs zs) n I) q
    ∙ get_or-append-add (word 64 x z) (unpack xs zs) (j * 64 + k) I
    ∙ unpack-at xs zs j k (le_of_suc-le-suc i) (le_of_suc-le-suc e) l
