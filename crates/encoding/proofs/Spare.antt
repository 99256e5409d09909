-- The bits at n and above: only the last word of a row has any, since a row has as many words as n needs. Whether one of them is set is whether the word,
-- shifted down by n mod 64, is not 0 (`above-is`). Assumes nothing.
use mathlib.Core.Path.{◌≡◌, refl, sym, ap, ap₂, ◌∙◌, subst}
use mathlib.Core.Bool.{Bool, true, false, not, ◌||◌}
use mathlib.Core.List.{List, [], ◌∷◌, ◌++◌, append-nil}
use Prim.Native.Nat.{ℕ, zero, suc, ◌+◌, ◌-◌, ◌*◌, ◌/◌, ◌%◌, ◌^◌, ◌≤◌, ◌<◌, zero-le}
use native.Mathlib.Nat.{div-one, not-suc-le-zero, le_of_suc-le-suc, suc_inj, suc-mul, sub-zero}
use native.Mathlib.Numerals.{one-add}
use native.Mathlib.Omega.{arith}
use borrow.Author.Tests.{ne_eqb}
use lib.Arith.{lt-one, lt_of_le-ne}
use lib.Bits.{bit_or, or_shr}
use lib.Dec.{eqb}
use lib.Pow.{shr-shr, shr_lt}
use lib.ListN.{length, get_or, drop, drop_of_length-le}
use lib.Seq.{drop-append-add}
use Rattle.pauli.specs.Pauli.{Pauli}
use Rattle.pauli.specs.declared.PauliMatrix.TheVariants.{I, X, Y, Z}
use Rattle.pauli.proofs.RowLaws.{has_x-of, has_z-of}
use Rattle.encoding.specs.Words.{odd, bit, word, unpack}
use Rattle.encoding.proofs.Padding.{Only, only_of}
use Rattle.encoding.proofs.Scan.{any-never}
use Rattle.encoding.proofs.Odd.{or-odd, or-half}
use Rattle.encoding.proofs.WordLaws.{back, half_lt, length-word}
use Rattle.encoding.proofs.Reading.{length-unpack}
use Rattle.encoding.specs.Set.{row}
use Rattle.encoding.proofs.Parts.{row-long, get_d_part}
use Rattle.encoding.specs.Limits.{words_of}
use Rattle.encoding.specs.Refusals.{some_below, some, is_on}

-- ---- nothing but I

on-any : (p : Pauli) → is_on p ≡ false → p ≡ I
on-any I e = refl
on-any X e = absurd (omega (arith, ap bit e))
on-any Y e = absurd (omega (arith, ap bit e))
on-any Z e = absurd (omega (arith, ap bit e))

pub off-all : (ps : List Pauli) → some is_on ps ≡ false → Only I ps
off-all = only_of is_on I on-any

-- ---- one pair of words

nz : (h : ℕ) (b : Bool) → not (eqb (h * 2 + bit b) 0) ≡ (b || not (eqb h 0))
nz h true = ap not (ne_eqb (h * 2 + 1) 0 (λ e. omega arith))
nz zero false = refl
nz (suc h) false = ap not (ne_eqb (suc h * 2 + 0) 0 (λ e. omega arith)) ∙ sym (ap not (ne_eqb (suc h) 0 (λ e. omega arith)))

some_word : (d x z : ℕ) → x < 2 ^ d → z < 2 ^ d → some is_on (word d x z) ≡ not (eqb (bit_or x z) 0)
unfolding some word
some_word zero x z hx hz = sym (ap₂ (λ (a b : ℕ). not (eqb (bit_or a b) 0)) (lt-one hx) (lt-one hz))
some_word (suc d) x z hx hz =
    ap₂ ◌||◌ (ap₂ ◌||◌ (has_x-of (odd x) (odd z)) (has_z-of (odd x) (odd z)) ∙ sym (or-odd x z))
    (some_word d (x / 2) (z / 2) (half_lt d hx) (half_lt d hz) ∙ ap (λ (y : ℕ). not (eqb y 0)) (sym (or-half x z)))
    ∙ sym (nz (bit_or x z / 2) (odd (bit_or x z)))
    ∙ ap (λ (y : ℕ). not (eqb y 0)) (back (bit_or x z))

drop-word : (k d x z : ℕ) → k ≤ d → drop k (word d x z) ≡ word (d - k) (x / 2 ^ k) (z / 2 ^ k)
unfolding word
drop-word zero d x z h = ap₂ (word d) (sym (div-one x)) (sym (div-one z)) ∙ ap (λ (e : ℕ). word e (x / 1) (z / 1)) (sym (sub-zero d))
drop-word (suc k) zero x z h = absurd (not-suc-le-zero h)
drop-word (suc k) (suc d) x z h =
    let at : (y : ℕ) → y / 2 / 2 ^ k ≡ y / 2 ^ suc k = λ y. shr-shr y 1 k ∙ ap (λ (e : ℕ). y / 2 ^ e) (one-add k) in
    let s : d - k ≡ suc d - suc k = omega arith in
    drop-word k d (x / 2) (z / 2) (le_of_suc-le-suc h)
    ∙ ap₂ (word (d - k)) (at x) (at z)
    ∙ ap (λ (e : ℕ). word e (x / 2 ^ suc k) (z / 2 ^ suc k)) s

-- the test on words
pub above-is : (k x z : ℕ) → k < 64 → x < 2 ^ 64 → z < 2 ^ 64 → some is_on (drop k (word 64 x z)) ≡ not (eqb (bit_or x z / 2 ^ k) 0)
above-is k x z h hx hz =
    let e : (64 - k) + k ≡ 64 = omega arith in
    let low : (y : ℕ) → y < 2 ^ 64 → y / 2 ^ k < 2 ^ (64 - k) = λ y l. shr_lt (64 - k) k (subst (λ (n : ℕ). y < 2 ^ n) (sym e) l) in
    ap (some is_on) (drop-word k 64 x z (omega arith))
    ∙ some_word (64 - k) (x / 2 ^ k) (z / 2 ^ k) (low x hx) (low z hz)
    ∙ ap (λ (y : ℕ). not (eqb y 0)) (sym (or_shr x z k))

-- ---- a row: the last word

last_word : (j k : ℕ) (xs zs : List ℕ) → length xs ≡ suc j → length zs ≡ suc j → drop (j * 64 + k) (unpack xs zs) ≡ drop k (word 64 (get_or xs j 0) (get_or zs j 0))
unfolding unpack
last_word j k [] zs hx hz = absurd (omega arith)
last_word j k (x ∷ xs) [] hx hz = absurd (omega arith)
last_word zero k (x ∷ []) (z ∷ []) hx hz =
    let e : 0 * 64 + k ≡ k = omega arith in
    ap (drop (0 * 64 + k)) (append-nil (word 64 x z)) ∙ ap (λ (n : ℕ). drop n (word 64 x z)) e
last_word zero k (x ∷ y ∷ xs) (z ∷ zs) hx hz = absurd (omega arith)
last_word zero k (x ∷ []) (z ∷ y ∷ zs) hx hz = absurd (omega arith)
last_word (suc j) k (x ∷ xs) (z ∷ zs) hx hz =
    let e : suc j * 64 + k ≡ length (word 64 x z) + (j * 64 + k) = omega (arith, suc-mul j 64, length-word 64 x z) in
    ap (λ (n : ℕ). drop n (word 64 x z ++ unpack xs zs)) e
    ∙ drop-append-add (word 64 x z) (unpack xs zs) (j * 64 + k)
    ∙ last_word j k xs zs (suc_inj hx) (suc_inj hz)

module _ (n : ℕ) (xs zs : List ℕ) (hx : length xs ≡ words_of n) (hz : length zs ≡ words_of n) where
  pub spare-none : n % 64 ≡ 0 → some is_on (drop n (unpack xs zs)) ≡ false
  unfolding some
  spare-none e =
      let h : length (unpack xs zs) ≤ n = omega (arith, length-unpack xs zs (hz ∙ sym hx)) in
      ap (some is_on) (drop_of_length-le (unpack xs zs) h)

  pub spare-last : (n % 64 ≡ 0 → ⊥) → some is_on (drop n (unpack xs zs)) ≡ some is_on (drop (n % 64) (word 64 (get_or xs (words_of n - 1) 0) (get_or zs (words_of n - 1) 0)))
  spare-last ne =
      let p : 0 < n % 64 = lt_of_le-ne zero-le (λ (e : 0 ≡ n % 64). ne (sym e)) in
      let e : n ≡ (words_of n - 1) * 64 + n % 64 = omega arith in
      ap (λ (k : ℕ). some is_on (drop k (unpack xs zs))) e
      ∙ ap (some is_on) (last_word (words_of n - 1) (n % 64) xs zs (hx ∙ omega arith) (hz ∙ omega arith))

-- ---- the rows of a set

abbrev pub high : ℕ → ℕ → List ℕ → List ℕ → ℕ → Bool
high n w xs zs r = some is_on (drop n (unpack (row w r xs) (row w r zs)))

module _ (n m w : ℕ) (xs zs : List ℕ) (hw : w ≡ words_of n) (hx : length xs ≡ m * w) (hz : length zs ≡ m * w) where
  pub rows_none : n % 64 ≡ 0 → some_below m (high n w xs zs) ≡ false
  rows_none e = any-never (high n w xs zs) m (λ r l. spare-none n (row w r xs) (row w r zs) (row-long m w r xs l hx ∙ hw) (row-long m w r zs l hz ∙ hw) e)

  pub row_last : (r t : ℕ) → (n % 64 ≡ 0 → ⊥) → r < m → t ≡ r * w + (w - 1)
      → some is_on (drop (n % 64) (word 64 (get_or xs t 0) (get_or zs t 0))) ≡ high n w xs zs r
  row_last r t ne l et =
      let p : 0 < n % 64 = lt_of_le-ne zero-le (λ (e : 0 ≡ n % 64). ne (sym e)) in
      let i : w - 1 < w = omega arith in
      let at : (l : List ℕ) → get_or l t 0 ≡ get_or (row w r l) (words_of n - 1) 0 =
      λ l. ap (λ (k : ℕ). get_or l k 0) et ∙ sym (get_d_part (r * w) w l (w - 1) i) ∙ ap (λ (k : ℕ). get_or (row w r l) (k - 1) 0) hw in
      ap₂ (λ (x z : ℕ). some is_on (drop (n % 64) (word 64 x z))) (at xs) (at zs)
      ∙ sym (spare-last n (row w r xs) (row w r zs) (row-long m w r xs l hx ∙ hw) (row-long m w r zs l hz ∙ hw) ne)
