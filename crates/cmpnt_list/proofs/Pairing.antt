-- The pairwise product, row by row: what the row leaf leaves in the parts that it is lent, said of the sets' rows. Of the third set r rows are written: the
-- leaf's words are row r of the product, and the sum of its exponent and of both rows' is the product's phase, made part of the phase word. Assumes nothing.
use mathlib.Core.Path.{◌≡◌, refl, sym, ap, ap₂, ◌∙◌, subst}
use mathlib.Core.Bool.{Bool, cond}
use mathlib.Core.List.{List}
use Prim.Native.Nat.{ℕ, ◌+◌, ◌-◌, ◌*◌, ◌/◌, ◌%◌, ◌^◌, ◌≤◌, ◌<◌}
use native.Mathlib.Omega.{arith}
use native.Mathlib.Decide.{dec_lt, ℕ_discrete}
use native.Mathlib.Nat.{ne_of_lt, not-suc-le-zero}
use borrow.Author.Count.{below_more}
use borrow.Author.Tests.{lt-ltb, le-ltb}
use lib.ListN.{length, get_or, set, length-set, get_or-eq_default}
use lib.Pow.{pow_pos}
use mir.Syntax.{w64}
use mir.Val.{Fits}
use lib.Seq.{get_or-set_same, get_or-set_other, ext_get_or}
use Rattle.pauli.specs.Pauli.{has_x, has_z, mul}
use Rattle.pauli.specs.Row.{expo, mul_row}
use Rattle.pauli.specs.Rows.{clashes_of}
use Rattle.encoding.specs.Limits.{words_of}
use Rattle.encoding.specs.Words.{pack}
use Rattle.encoding.specs.Set.{row, Mem, mem_of, count, phase_units, exponent_in, with_in, exponent_at, in_rows, lay_exponents, rows_held, rows_of, lay}
use Rattle.encoding.proofs.Parts.{length-list, get_or-list}
use Rattle.encoding.proofs.Memory.{x-row}
use Rattle.encoding.proofs.Exponents.{in_small, in-none, in-same, in-other, with-fits, up_in, up-out, laid-words}
use Rattle.encoding.proofs.WordLaws.{Fit}
use Rattle.encoding.proofs.RowWords.{in_words, product_is, phase-is, clashes-fit}
use Rattle.encoding.proofs.Sets.{laid_by}
use Rattle.products.specs.Leaves.{SameLength, ProductAt}
use Rattle.products.specs.declared.Factor.{Factor}
use Rattle.products.proofs.PartLaws.{row_other}
use Rattle.cmpnt_list.specs.Calls.{pair_rows, pair_numbers}
use Rattle.cmpnt_list.specs.Workers.{BothReady, ThirdReady, RowAt, word_end, rows_before, Written, PhasesOf}

-- an exponent may be reduced before it is added
low-last : (x y z : ℕ) → (x + y + z % 4) % 4 ≡ (x + y + z) % 4
low-last x y z = omega arith

-- ---- the third set's words and the numbers of clashes, of which r are written

pub written_none : (n : ℕ) {L R O : Mem} {cs : List ℕ} → ThirdReady n (length cs) O → count O ≡ count L → Written n L R 0 O.xs O.zs cs
written_none n t e =
    record {
      x-long = t.x-long ∙ ap (λ (m : ℕ). m * words_of n) e;
      z-long = t.z-long ∙ ap (λ (m : ℕ). m * words_of n) e;
      c-long = t.numbers ∙ e;
      x-row = λ k h. absurd (not-suc-le-zero h);
      z-row = λ k h. absurd (not-suc-le-zero h);
      number = λ k h. absurd (not-suc-le-zero h);
    }

pub written_at : {n r s : ℕ} {L R : Mem} {xs zs cs : List ℕ} → r ≡ s → Written n L R r xs zs cs → Written n L R s xs zs cs
written_at {n} {r} {s} {L} {R} {xs} {zs} {cs} e w = subst (λ (k : ℕ). Written n L R k xs zs cs) e w

-- ---- a phase word

module _ (m j : ℕ) (h : j < phase_units m) where
  pub end-in : (word_end m j ≤ m) × (word_end m j ≤ j * 32 + 32) × (j * 32 ≤ word_end m j)
  end-in = go (dec_lt (m - j * 32) 32)
    where
      go : Dec (m - j * 32 < 32) → (word_end m j ≤ m) × (word_end m j ≤ j * 32 + 32) × (j * 32 ≤ word_end m j)
      go (yes l) = rw (lt-ltb (m - j * 32) 32 l) (omega arith, omega arith, omega arith)
      go (no l) = rw (le-ltb _ _ (let i : 32 ≤ m - j * 32 = omega arith in i)) (omega arith, omega arith, omega arith)

  -- no row of the word lies between its end and m
  end-out : (k : ℕ) → k < 32 → word_end m j ≤ j * 32 + k → m ≤ j * 32 + k
  end-out k i e = go (dec_lt (m - j * 32) 32)
    where
      go : Dec (m - j * 32 < 32) → m ≤ j * 32 + k
      go (yes l) = subst (λ (b : Bool). cond b m (j * 32 + 32) ≤ j * 32 + k) (lt-ltb (m - j * 32) 32 l) e
      go (no l) =
          let f : j * 32 + 32 ≤ j * 32 + k = subst (λ (b : Bool). cond b m (j * 32 + 32) ≤ j * 32 + k) (le-ltb _ _ (let i : 32 ≤ m - j * 32 = omega arith in i)) e in
          omega arith

module _ (n : ℕ) (L R : Mem) (j : ℕ) where
  pub phases-none : PhasesOf n L R j (j * 32) 0
  phases-none = record { fits = pow_pos 64; each = λ k i. in-none k ∙ sym (up-out (j * 32) (λ i. (pair_rows n L R i).p) (j * 32 + k) (omega arith)) }

  pub phases-all : {r m v : ℕ} → j < phase_units m → r ≡ word_end m j → PhasesOf n L R j r v → PhasesOf n L R j m v
  phases-all {r} {m} {v} h e f = record { fits = f.fits; each = λ k i. f.each k i ∙ at k i (dec_lt (j * 32 + k) r) }
    where
      g : ℕ → ℕ
      g i = (pair_rows n L R i).p

      at : (k : ℕ) → k < 32 → Dec (j * 32 + k < r) → in_rows r g (j * 32 + k) ≡ in_rows m g (j * 32 + k)
      at k i (yes l) = up_in r g (j * 32 + k) l ∙ sym (up_in m g (j * 32 + k) (let d = (end-in m j h).0 in omega arith))
      at k i (no l) = up-out r g (j * 32 + k) (omega arith) ∙ sym (up-out m g (j * 32 + k) (end-out m j h k i (omega arith)))

-- the rows before the next word, those of this one included
pub next_word : (m j : ℕ) → j < phase_units m → word_end m j ≡ rows_before m (j + 1)
next_word m j h = go (dec_lt (m - j * 32) 32) (dec_lt m ((j + 1) * 32))
  where
    go : Dec (m - j * 32 < 32) → Dec (m < (j + 1) * 32) → word_end m j ≡ rows_before m (j + 1)
    go (yes l) (yes i) = rw (lt-ltb (m - j * 32) 32 l, lt-ltb m ((j + 1) * 32) i) refl
    go (yes l) (no i) = absurd (omega arith)
    go (no l) (yes i) = absurd (omega arith)
    go (no l) (no i) =
        let a : 32 ≤ m - j * 32 = omega arith in
        let b : (j + 1) * 32 ≤ m = omega arith in
        rw (le-ltb _ _ a, le-ltb _ _ b) (omega arith)

pub no_words : (m : ℕ) → 0 ≡ rows_before m 0
no_words m = sym (ap (λ (b : Bool). cond b m 0) (le-ltb _ _ (let a : 0 ≤ m = omega arith in a)))

pub this-word : (m j : ℕ) → j < phase_units m → rows_before m j ≡ j * 32
this-word m j h = let a : j * 32 ≤ m = omega arith in rw (le-ltb _ _ a) refl

pub all_words : (m j : ℕ) → j ≡ phase_units m → rows_before m j ≡ m
all_words m j e = go (dec_lt m (j * 32))
  where
    go : Dec (m < j * 32) → rows_before m j ≡ m
    go (yes l) = rw (lt-ltb _ _ l) refl
    go (no l) = let a : j * 32 ≤ m = omega arith in rw (le-ltb _ _ a) (omega arith)

-- ---- the whole product

-- words that are those of the product's phases, one after the other
pub phases-laid : (n : ℕ) (L R : Mem) {m : ℕ} {es : List ℕ} → length es ≡ phase_units m → ((j : ℕ) → j < phase_units m → PhasesOf n L R j m (get_or es j 0))
    → es ≡ lay_exponents m (λ k. (pair_rows n L R k).p)
phases-laid n L R {m} {es} l f =
    laid-words m (λ k. (pair_rows n L R k).p) l fit
    (λ j h k i. (f j h).each k i ∙ (let e = (f j h).each k i in let s = in_small (get_or es j 0) k in omega arith))
  where
    fit : Fit es
    fit j = go (dec_lt j (phase_units m))
      where
        go : Dec (j < phase_units m) → Fits w64 (get_or es j 0)
        go (yes h) = record { fits = (f j h).fits }
        go (no h) = record { fits = subst (λ (v : ℕ). v < 2 ^ 64) (sym (get_or-eq_default es 0 (omega arith))) (pow_pos 64) }

-- one more is written
pub phases-more : (n : ℕ) (L R : Mem) {m j v : ℕ} (es : List ℕ) → j < length es → PhasesOf n L R j m v
    → ((i : ℕ) → i < j → PhasesOf n L R i m (get_or es i 0)) → (i : ℕ) → i < j + 1 → PhasesOf n L R i m (get_or (set es j v) i 0)
phases-more n L R {m} {j} {v} es h p f =
    below_more (λ (i : ℕ). PhasesOf n L R i m (get_or (set es j v) i 0)) j
    (λ i l. subst (PhasesOf n L R i m) (sym (get_or-set_other es j i v 0 (ne_of_lt l))) (f i l))
    (subst (PhasesOf n L R j m) (sym (get_or-set_same es j v 0 h)) p)

pub numbered-all : (n : ℕ) {L R : Mem} {xs zs cs : List ℕ} → Written n L R (count L) xs zs cs → cs ≡ pair_numbers n L R
numbered-all n {L} {R} {xs} {zs} {cs} c =
    let f : ℕ → ℕ = λ k. clashes_of n (rows_of n L k) (rows_of n R k) in
    ext_get_or 0 cs (pair_numbers n L R) (c.c-long ∙ sym (length-list (count L) f))
    (λ k h. let i : k < count L = subst (λ (j : ℕ). k < j) c.c-long h in c.number k i ∙ sym (get_or-list (count L) f k 0 i))

pub written_all : (n : ℕ) {L R : Mem} {xs zs cs es : List ℕ} → Written n L R (count L) xs zs cs → es ≡ lay_exponents (count L) (λ k. (pair_rows n L R k).p)
    → mem_of (count L) xs zs es ≡ lay n (count L) (pair_rows n L R)
written_all n c e = laid_by (record { x-long = c.x-long; z-long = c.z-long; x-row = c.x-row; z-row = c.z-row }) e

module _ (n : ℕ) {L R : Mem} (b : BothReady n L R) (same : count R ≡ count L) where
  pub all-long : {xs zs cs : List ℕ} {r : ℕ} → Written n L R r xs zs cs → SameLength (length L.xs) L.xs L.zs R.xs R.zs xs zs
  all-long h =
      let l = b.left.valid in
      let r = b.right.valid in
      let left : count L * words_of n ≡ length L.xs = sym l.x-long in
      let right : count R * words_of n ≡ length L.xs = ap (λ (j : ℕ). j * words_of n) same ∙ left in
      record { in-lx = refl; in-lz = l.z-long ∙ left; in-rx = r.x-long ∙ right; in-rz = r.z-long ∙ right; in-ox = h.x-long ∙ left; in-oz = h.z-long ∙ left }

  module _ {ox oz ox' oz' : List ℕ} {r : ℕ} {p : Factor} (hr : r < count L)
      (q : ProductAt (r * words_of n) (r * words_of n + words_of n) L.xs L.zs R.xs R.zs ox oz ox' oz' p) where
    one-exponent : {v : ℕ} → v ≡ (exponent_at L.es r + exponent_at R.es r + p.phase.0) % 4 → v ≡ (pair_rows n L R r).p
    unfolding mul_row rows_held
    one-exponent hv =
        let x = exponent_at L.es r in
        let y = exponent_at R.es r in
        hv ∙ ap (λ (e : ℕ). (x + y + e) % 4) (q.here.factor.exponent ∙ phase-is n (words_of n) b.left.valid R r r hr) ∙ low-last x y (expo n (rows_of n L r) (rows_of n R r))

    one_more : {cs : List ℕ} → Written n L R r ox oz cs → Written n L R (r + 1) ox' oz' (set cs r p.clashes)
    unfolding mul_row
    one_more {cs} h =
        let w = words_of n in
        let l = b.left.valid in
        let hr' : r < count R = subst (λ (j : ℕ). r < j) (sym same) hr in
        let long : length (row w r L.xs) ≡ w = x-row n w l r hr in
        record {
          x-long = q.x-rest.long ∙ h.x-long;
          z-long = q.z-rest.long ∙ h.z-long;
          c-long = length-set cs r p.clashes ∙ h.c-long;
          x-row =
              below_more (λ (k : ℕ). row w k ox' ≡ pack has_x w (pair_rows n L R k).ps) r
              (λ k i. row_other w k r q.x-rest (ne_of_lt i) ∙ h.x-row k i)
              (q.here.x-words ∙ ap (λ (j : ℕ). pack has_x j (mul (in_words w L r) (in_words w R r))) long ∙ product_is n w l R b.right.valid has_x refl r r hr hr');
          z-row =
              below_more (λ (k : ℕ). row w k oz' ≡ pack has_z w (pair_rows n L R k).ps) r
              (λ k i. row_other w k r q.z-rest (ne_of_lt i) ∙ h.z-row k i)
              (q.here.z-words ∙ ap (λ (j : ℕ). pack has_z j (mul (in_words w L r) (in_words w R r))) long ∙ product_is n w l R b.right.valid has_z refl r r hr hr');
          number =
              below_more (λ (k : ℕ). get_or (set cs r p.clashes) k 0 ≡ clashes_of n (rows_of n L k) (rows_of n R k)) r
              (λ k i. get_or-set_other cs r k p.clashes 0 (ne_of_lt i) ∙ h.number k i)
              (get_or-set_same cs r p.clashes 0 (subst (λ (j : ℕ). r < j) (sym h.c-long) hr)
              ∙ q.here.factor.number ∙ clashes-fit n (words_of n) l R b.left.few-qubits r r hr);
        }

  -- row r of word j is done: its exponent is made part of the word
  pub row_done : {ox oz ox' oz' cs : List ℕ} {j r v u e m a z : ℕ} {p : Factor} → r < count L → r / 32 ≡ j → RowAt r (words_of n) m a z
      → ProductAt a z L.xs L.zs R.xs R.zs ox oz ox' oz' p → e ≡ (exponent_at L.es r + exponent_at R.es r + p.phase.0) % 4
      → u ≡ with_in v (r % 32) e → Written n L R r ox oz cs → PhasesOf n L R j r v → Written n L R (r + 1) ox' oz' (set cs r p.clashes) × PhasesOf n L R j (r + 1) u
  row_done {ox} {oz} {ox'} {oz'} {cs} {j} {r} {v} {u} {e} {m} {a} {z} {p} hr hj at q he hu h f = (one_more hr q' h, record { fits = subst (λ (x : ℕ). x < 2 ^ 64) (sym hu) (with-fits v (r % 32) e); each = λ k i. exps k i (ℕ_discrete k (r % 32)) })
    where
      q' : ProductAt (r * words_of n) (r * words_of n + words_of n) L.xs L.zs R.xs R.zs ox oz ox' oz' p
      q' =
          subst (λ (i : ℕ). ProductAt i (r * words_of n + words_of n) L.xs L.zs R.xs R.zs ox oz ox' oz' p) at.from
          (subst (λ (i : ℕ). ProductAt a i L.xs L.zs R.xs R.zs ox oz ox' oz' p) at.to q)

      g : ℕ → ℕ
      g i = (pair_rows n L R i).p

      here : (k : ℕ) → k ≡ r % 32 → j * 32 + k ≡ r
      here k i = omega arith

      exps : (k : ℕ) → k < 32 → Dec (k ≡ r % 32) → exponent_in u k ≡ in_rows (r + 1) g (j * 32 + k)
      exps k i (yes d) =
          ap₂ exponent_in hu d
          ∙ in-same v (r % 32) e (omega arith)
          ∙ (let s : e % 4 ≡ e = omega arith in s)
          ∙ one-exponent hr q' he
          ∙ sym (ap (in_rows (r + 1) g) (here k d) ∙ up_in (r + 1) g r (omega arith))
      exps k i (no d) = ap (λ (x : ℕ). exponent_in x k) hu ∙ in-other v (r % 32) e k i d ∙ f.each k i ∙ up_same (dec_lt (j * 32 + k) r)
        where
          up_same : Dec (j * 32 + k < r) → in_rows r g (j * 32 + k) ≡ in_rows (r + 1) g (j * 32 + k)
          up_same (yes l) = up_in r g (j * 32 + k) l ∙ sym (up_in (r + 1) g (j * 32 + k) (omega arith))
          up_same (no l) = up-out r g (j * 32 + k) (omega arith) ∙ sym (up-out (r + 1) g (j * 32 + k) (omega arith))
