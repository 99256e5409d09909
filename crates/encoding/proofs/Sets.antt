-- Whole row sets: what the tests tell of one, and that they pass a row set within the limits; two sets whose rows agree; the set that holds given rows.
-- Assumes nothing.
use mathlib.Core.Path.{◌≡◌, refl, sym, ap, ap₂, ◌∙◌, subst}
use mathlib.Core.Bool.{Bool, true, false, cond, ◌||◌}
use mathlib.Core.List.{List, ◌∷◌}
use Prim.Native.Nat.{ℕ, zero, suc, ◌+◌, ◌*◌, ◌≤◌, ◌<◌, suc-le-suc}
use native.Mathlib.Nat.{suc-ne-zero, zero-lt-suc}
use native.Mathlib.Omega.{arith}
use borrow.Author.Tests.{le-ltb, ltb-false, leb-false, eq-eqb}
use lib.ListN.{length, get_or, drop}
use lib.Seq.{ext_get_or}
use Rattle.pauli.specs.declared.PauliMatrix.TheVariants.{I}
use Rattle.pauli.specs.Pauli.{Pauli, has_x, has_z}
use Rattle.pauli.specs.Row.{Row, bit_row}
use Rattle.pauli.proofs.RowLaws.{same_bits}
use Rattle.encoding.specs.Limits.{max_qubits, max_rows, words_of}
use Rattle.encoding.specs.Words.{unpack, qubits, pack, lay_rows}
use Rattle.encoding.specs.Set.{row, Mem, mem_of, count, phase_units, exponent_at, lay_exponents, rows_held, rows_of, list, lay_in, lay, Valid, Sound}
use Rattle.encoding.specs.Refusals.{done_or, least, some, some_below, is_on, many_qubits, many_rows, bad_bits, set_lines, out_lines, number_lines, too_large, read_lines, rows_lines}
use Rattle.encoding.specs.declared.Refusal.{Refusal}
use Rattle.std.specs.Prelude.{Result, Ok, IfOk}
use Rattle.encoding.specs.Ranks.{by_rank, place_in}
use Rattle.pauli.specs.Lists.{every}
use Rattle.encoding.proofs.Padding.{of-only}
use Rattle.encoding.proofs.Parts.{row-long, rows_ext, row-lay-list, length-lay-list}
use Rattle.encoding.proofs.Reading.{length-qubits}
use Rattle.encoding.proofs.Scan.{none_of, any-never}
use Rattle.encoding.proofs.Faults.{done_none, if-ok, set-lengths, least-none, least-less, least_zero, not-large}
use Rattle.encoding.proofs.Ranks.{none-holds, Fitting, joined-fault}
use Rattle.encoding.proofs.Exponents.{laid-long, exponents-same, exponent_small, spare-passes, lay-alike}
use Rattle.encoding.proofs.Memory.{mem-eq, Proper, clean, row_count, within-limits}

-- ---- the tests of a set that is read

-- what the tests and their number tell
pub sound-of : (n : ℕ) (M : Mem) {f : ℕ} → f ≡ by_rank (set_lines n M) → (f ≡ 0 → Valid n (words_of n) M) → f ≡ 0 → Sound n M
sound-of n M e v z = let l = within-limits n M (sym e ∙ z) in record { valid = v z; few-qubits = l.0; few-rows = l.1 }

-- a set that is not refused
pub sound-when : (n : ℕ) (M : Mem) {a : Result Unit Refusal} → a ≡ done_or (by_rank (set_lines n M)) → IfOk a (λ _. Valid n (words_of n) M) → a ≡ Ok tt → Sound n M
sound-when n M e v z = sound-of n M refl (λ _. if-ok _ z v) (done_none _ (sym e ∙ z))

-- what a set that is passed holds, whatever its words
pub read-proper : (n : ℕ) (M : Mem) → by_rank (set_lines n M) ≡ 0 → Proper n (count M) (rows_of n M)
unfolding rows_held
read-proper n M e =
    let m = count M in
    let w = words_of n in
    let no = none-holds (set_lines n M) refl e in
    let l = set-lengths w M (no 2) in
    record {
      long = λ r h.
          let x = row-long m w r M.xs h l.0 in
          length-qubits n (row w r M.xs) (row w r M.zs) (row-long m w r M.zs h l.1 ∙ sym x) (omega (arith, x));
      small = λ r h. exponent_small M.es r;
    }

-- a row set within the limits is passed, and so it is with a number that is not too large
pub set-passes : (n : ℕ) (M : Mem) → Sound n M → by_rank (set_lines n M) ≡ 0
unfolding by_rank bad_bits
set-passes n M s =
    let m = count M in
    let w = words_of n in
    let v = s.valid in
    let b4 : some_below m (λ r. some is_on (drop n (unpack (row w r M.xs) (row w r M.zs)))) ≡ false
    = any-never _ m (λ r h. of-only is_on I refl (drop n (unpack (row w r M.xs) (row w r M.zs))) (clean n w v r h)) in
    let b5 = spare-passes m v.exponents in
    simp (le-ltb max_qubits n s.few-qubits, le-ltb max_rows m s.few-rows, eq-eqb (length M.xs) (m * w) v.x-long, eq-eqb (length M.zs) (m * w) v.z-long, eq-eqb (length M.es) (phase_units m) (laid-long m v.exponents), b4, b5)

pub set-number : (n : ℕ) (M : Mem) (large : Bool) → Fitting (set_lines n M) (number_lines large)
unfolding place_in least every
set-number n M large = refl

-- the number of one line
pub number_is : (large : Bool) → cond large 6 0 ≡ by_rank (number_lines large)
unfolding by_rank
number_is large = refl

-- where none fits, none fits the set, and the number is not too large
pub read_none : (n : ℕ) (M : Mem) (large : Bool) → by_rank (read_lines n M large) ≡ 0 → (by_rank (set_lines n M) ≡ 0) × (large ≡ false)
read_none n M large e =
    let p = least-none (by_rank (set_lines n M)) (by_rank (number_lines large)) (joined-fault (set_lines n M) (number_lines large) (set-number n M large) ∙ e) in
    (p.0, not-large 5 large (number_is large ∙ p.1))

-- a set's number is the call's; where the set has none, the test of the numbers is
module _ (n : ℕ) (M : Mem) (large : Bool) where
  both : by_rank (read_lines n M large) ≡ least (by_rank (set_lines n M)) (cond large 6 0)
  both = sym (joined-fault (set_lines n M) (number_lines large) (set-number n M large)) ∙ ap (least (by_rank (set_lines n M))) (sym (number_is large))

  -- 6 is above the numbers of a set
  below-six : (a b c d e : Bool) → cond a 1 (cond b 2 (cond c 3 (cond d 4 (cond e 5 0)))) < 6
  below-six true b c d e = omega arith
  below-six false true c d e = omega arith
  below-six false false true d e = omega arith
  below-six false false false true e = omega arith
  below-six false false false false true = omega arith
  below-six false false false false false = omega arith

  pub read-set : (by_rank (set_lines n M) ≡ 0 → ⊥) → by_rank (set_lines n M) ≡ by_rank (read_lines n M large)
  unfolding by_rank
  read-set h = go (by_rank (set_lines n M)) large h (below-six (many_qubits n) (many_rows (count M)) _ _ _) ∙ sym both
    where
      go : (k : ℕ) (b : Bool) → (k ≡ 0 → ⊥) → k < 6 → k ≡ least k (cond b 6 0)
      go k true h l = least-less k 6 h (λ z. suc-ne-zero 5 z) l
      go k false h l = sym (least_zero k)

  pub read_told : by_rank (set_lines n M) ≡ 0 → cond large 6 0 ≡ by_rank (read_lines n M large)
  unfolding least
  read_told z = sym (both ∙ ap (λ (k : ℕ). least k (cond large 6 0)) z)

pub read-passes : (n : ℕ) (M : Mem) → Sound n M → (large : Bool) → large ≡ false → by_rank (read_lines n M large) ≡ 0
unfolding least
read-passes n M s large e =
    sym (joined-fault (set_lines n M) (number_lines large) (set-number n M large)) ∙ ap₂ least (set-passes n M s) (sym (number_is large) ∙ ap (λ (b : Bool). cond b 6 0) e)

-- two rows of a set, where none fits
pub rows_in : (n : ℕ) (M : Mem) (a b : ℕ) → by_rank (rows_lines n M a b) ≡ 0 → (by_rank (set_lines n M) ≡ 0) × (a < count M) × (b < count M)
rows_in n M a b e =
    let large = too_large (count M) a || too_large (count M) b in
    let p = read_none n M large e in
    let q = none_of (too_large (count M) a) (too_large (count M) b) p.1 in
    (p.0, leb-false (count M) a q.0, leb-false (count M) b q.1)

-- what a set that is written only has, where it is passed
pub record Shaped (n : ℕ) (O : Mem) : Type 0 where
  pub few-qubits : n ≤ max_qubits
  pub few-rows : count O ≤ max_rows
  pub x-long : length O.xs ≡ count O * words_of n
  pub z-long : length O.zs ≡ count O * words_of n
  pub e-long : length O.es ≡ phase_units (count O)

pub shape_of : (n : ℕ) (O : Mem) → by_rank (out_lines n O) ≡ 0 → Shaped n O
shape_of n O e =
    let no = none-holds (out_lines n O) refl e in
    let l = set-lengths (words_of n) O (no 2) in
    record {
      few-qubits = ltb-false max_qubits n (no 0);
      few-rows = ltb-false max_rows (count O) (no 1);
      x-long = l.0;
      z-long = l.1;
      e-long = l.2;
    }

-- ---- two sets of the same n and m: rows that agree in every bit have the same words, in every phase the same phase words

module _ (n w : ℕ) {C D : Mem} (v : Valid n w C) (v' : Valid n w D) (m : count C ≡ count D) where
  -- row k, by its qubits
  pub row_words : (k : ℕ) → k < count C
      → ((i : ℕ) → i < n → get_or (qubits n (row w k C.xs) (row w k C.zs)) i I ≡ get_or (qubits n (row w k D.xs) (row w k D.zs)) i I)
      → (row w k C.xs ≡ row w k D.xs) × (row w k C.zs ≡ row w k D.zs)
  row_words k h f =
      let h' : k < count D = omega arith in
      let l = row_count n w v k h in
      let l' = row_count n w v' k h' in
      let q : qubits n (row w k C.xs) (row w k C.zs) ≡ qubits n (row w k D.xs) (row w k D.zs) = ext_get_or I _ _ (l ∙ sym l') (λ i g. f i (omega arith)) in
      ((v.packed k h).x-is ∙ ap (pack has_x w) q ∙ sym (v'.packed k h').x-is, (v.packed k h).z-is ∙ ap (pack has_z w) q ∙ sym (v'.packed k h').z-is)

  pub same-words : ((k : ℕ) → k < count C → (c : ℕ) → c < n + n → bit_row n (rows_held n w C k) c ≡ bit_row n (rows_held n w D k) c) → (C.xs ≡ D.xs) × (C.zs ≡ D.zs)
  unfolding rows_held
  same-words f =
      let m' : count D * w ≡ count C * w = ap (λ (k : ℕ). k * w) (sym m) in
      let at : (k : ℕ) → k < count C → (row w k C.xs ≡ row w k D.xs) × (row w k C.zs ≡ row w k D.zs) = λ k h. row_words k h (same_bits n _ _ (f k h)) in
      (rows_ext (count C) w C.xs D.xs v.x-long (v'.x-long ∙ m') (λ k h. (at k h).0), rows_ext (count C) w C.zs D.zs v.z-long (v'.z-long ∙ m') (λ k h. (at k h).1))

  pub same-phases : ((k : ℕ) → k < count C → (rows_held n w C k).p ≡ (rows_held n w D k).p) → C.es ≡ D.es
  unfolding rows_held
  same-phases f = exponents-same (count C) v.exponents (subst (λ (k : ℕ). D.es ≡ lay_exponents k (exponent_at D.es)) (sym m) v'.exponents) f

-- ---- words that hold the rows are what is laid from them

-- of m rows the first r are held
pub record Holds (w m r : ℕ) (σ : ℕ → Row) (xs zs : List ℕ) : Type 0 where
  pub x-long : length xs ≡ m * w
  pub z-long : length zs ≡ m * w
  pub x-row : (k : ℕ) → k < r → row w k xs ≡ pack has_x w (σ k).ps
  pub z-row : (k : ℕ) → k < r → row w k zs ≡ pack has_z w (σ k).ps

pub laid_by : {w m : ℕ} {σ : ℕ → Row} {xs zs es : List ℕ} → Holds w m m σ xs zs → es ≡ lay_exponents m (λ k. (σ k).p) → mem_of m xs zs es ≡ lay_in w m σ
unfolding lay_in
laid_by {w} {m} {σ} {xs} {zs} h e =
    let ps : ℕ → List Pauli = λ k. (σ k).ps in
    mem-eq
    refl
    (rows_ext m w xs (lay_rows has_x w (list m ps)) h.x-long (length-lay-list has_x w m ps) (λ r l. h.x-row r l ∙ sym (row-lay-list has_x w m ps r l)))
    (rows_ext m w zs (lay_rows has_z w (list m ps)) h.z-long (length-lay-list has_z w m ps) (λ r l. h.z-row r l ∙ sym (row-lay-list has_z w m ps r l)))
    e

-- ---- lists and what is laid, by their elements below m

pub list_same : {A : Type 0} (m : ℕ) (f g : ℕ → A) → ((k : ℕ) → k < m → f k ≡ g k) → list m f ≡ list m g
unfolding list
list_same zero f g h = refl
list_same {A} (suc m) f g h = ap₂ (λ (a : A) (l : List A). a ∷ l) (h 0 (zero-lt-suc m)) (list_same m (λ k. f (suc k)) (λ k. g (suc k)) (λ k l. h (suc k) (suc-le-suc l)))

pub lay-same : (n m : ℕ) (σ τ : ℕ → Row) → ((k : ℕ) → k < m → σ k ≡ τ k) → lay n m σ ≡ lay n m τ
unfolding lay_in
lay-same n m σ τ h =
    let ps : list m (λ k. (σ k).ps) ≡ list m (λ k. (τ k).ps) = list_same m (λ k. (σ k).ps) (λ k. (τ k).ps) (λ k l. ap (λ (x : Row). x.ps) (h k l)) in
    let es = lay-alike m (λ k. (σ k).p) (λ k. (τ k).p) (λ k l. ap (λ (x : Row). x.p) (h k l)) in
    λ i. record { m = m; xs = lay_rows has_x (words_of n) (ps i); zs = lay_rows has_z (words_of n) (ps i); es = es i }
