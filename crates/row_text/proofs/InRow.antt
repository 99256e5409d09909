-- Words that hold the Paulis read so far: none at first, one more with each letter; at the end the first words of them are the row's. The row is put into
-- its set: its words are what its Paulis pack to, and every other row's words are as they were.
use Rattle.row_text.proofs.Kit.{◌≡◌, refl, sym, ap, ap₂, ◌∙◌, subst, Bool, true, false, cond, false≢true, List, [], ◌∷◌, ℕ, zero, suc, ◌+◌, ◌*◌, ◌-◌, ◌<◌, ◌≤◌, arith, ℕ_discrete, eq-eqb, ne_eqb, length, get_or, take, drop, set, length-set, Pauli, I, has_x, has_z, by}
use lib.ListN.{replicate}
use borrow.Rule.Slice.PartMut.{put_mid, put_same}
use Rattle.pauli.specs.Row.{Row}
use Rattle.encoding.specs.Limits.{max_qubits, max_words, words_of}
use Rattle.encoding.specs.Words.{qubits, join, pack}
use Rattle.encoding.specs.Set.{part, row, Mem, mem_of, count, exponent_at, rows_held, lay_in, within, QubitSet, Packed, Valid}
use Rattle.encoding.specs.Refusals.{answer_or, done_or, left_or}
use Rattle.std.specs.Prelude.{Ok, Err}
use Rattle.encoding.proofs.Padding.{pack-cut}
use Rattle.encoding.proofs.Reading.{length-pack, qubits-pack}
use Rattle.encoding.proofs.Memory.{clean_of}
use Rattle.encoding.proofs.Exponents.{laid_as}
use Rattle.encoding.proofs.Sets.{laid_by}
use Rattle.products.specs.Leaves.{Outside}
use Rattle.products.proofs.PartLaws.{row_other}
use Rattle.cmpnt_list.specs.Workers.{RowAt}
use Rattle.cmpnt_list.proofs.OneQubit.{set-packed}
use Rattle.cmpnt_list.proofs.Views.{put-row, put_rest}
use Rattle.row_text.specs.Text.{spaced, text_of, is_text, row_of}
use Rattle.row_text.specs.Calls.{with_row}
use Rattle.row_text.specs.Workers.{no_text_number}
use Rattle.row_text.specs.Workers.{left, Found, blank, Tells, a-row, no_row, Holding, PauliSet, Scanned, RowParsed}
use Rattle.row_text.proofs.Rows.{text-read, read-text, row-long, no_text}
use Rattle.row_text.proofs.Spelling.{one-row}
use Rattle.row_text.proofs.Scanning.{Scanning, scanning, scan-long, scan-more, scan-all, scan-stops}

-- ---- no Pauli yet

blank_none : (n k : ℕ) → get_or (blank n []) k I ≡ I
blank_none zero k = refl
blank_none (suc n) zero = refl
blank_none (suc n) (suc k) = blank_none n k

pack-nothing : (f : Pauli → Bool) (w : ℕ) → pack f w [] ≡ replicate {A = ℕ} w 0
unfolding pack join
pack-nothing f zero = refl
pack-nothing f (suc w) = ap (λ (l : List ℕ). 0 ∷ l) (pack-nothing f w)

pack-blank : (f : Pauli → Bool) → f I ≡ false → (w n : ℕ) → replicate {A = ℕ} w 0 ≡ pack f w (blank n [])
pack-blank f e w n = sym (pack-nothing f w) ∙ pack-cut f I e w 0 (blank n []) (λ k. blank_none n k)

pub holding-none : (n : ℕ) → Holding max_words (blank n []) (replicate {A = ℕ} max_words 0) (replicate {A = ℕ} max_words 0)
holding-none n = record { x-is = pack-blank has_x refl max_words n; z-is = pack-blank has_z refl max_words n }

-- ---- one more

pub holding-long : {ps : List Pauli} {xs zs : List ℕ} → Holding max_words ps xs zs → (length xs ≡ max_words) × (length zs ≡ max_words)
holding-long {ps} h = (ap length h.x-is ∙ length-pack has_x max_words ps, ap length h.z-is ∙ length-pack has_z max_words ps)

kept-x : {q : ℕ} {p : Pauli} {xs zs xs' zs' : List ℕ} → QubitSet q p xs zs xs' zs' → length xs' ≡ length xs
kept-x {q} {p} {xs} {zs} s =
    ap length s.x-words ∙ by (λ (l : List ℕ). length l ≡ length xs) (within q xs zs) (λ e. length-set xs _ _) (λ e. refl)

kept-z : {q : ℕ} {p : Pauli} {xs zs xs' zs' : List ℕ} → QubitSet q p xs zs xs' zs' → length zs' ≡ length zs
kept-z {q} {p} {xs} {zs} s =
    ap length s.z-words ∙ by (λ (l : List ℕ). length l ≡ length zs) (within q xs zs) (λ e. length-set zs _ _) (λ e. refl)

module _ {n : ℕ} (few : n ≤ max_qubits) {ps : List Pauli} (long : length ps ≡ n) {xs zs xs' zs' : List ℕ} (h : Holding max_words ps xs zs) {v : ℕ} {p : Pauli} (low : v < n) (s : PauliSet v p xs zs xs' zs') where
  wide : n ≤ max_words * 64
  wide = omega arith

  held : qubits n xs zs ≡ ps
  held = ap₂ (qubits n) h.x-is h.z-is ∙ qubits-pack n max_words ps long wide

  packed : Packed n max_words xs zs
  packed = record { x-is = h.x-is ∙ ap (pack has_x max_words) (sym held); z-is = h.z-is ∙ ap (pack has_z max_words) (sym held) }

  pub holding-more : Holding max_words (set ps v p) xs' zs'
  holding-more =
      let l = holding-long h in
      let k =
      set-packed n max_words v p wide low l.0 l.1 (kept-x s.set ∙ l.0) (kept-z s.set ∙ l.1)
      (clean_of n max_words (ap length held ∙ long) wide packed) s.set s.x-fit s.z-fit in
      let e : set (qubits n xs zs) v p ≡ set ps v p = ap (λ (l : List Pauli). set l v p) held in
      record { x-is = k.0 ∙ ap (pack has_x max_words) e; z-is = k.1 ∙ ap (pack has_z max_words) e }

-- ---- the loop of the reader

pub record Scan (n : ℕ) (s xs zs : List ℕ) (q at : ℕ) : Type 0 where
  pub row : List Pauli
  pub scanning : Scanning n s row q at
  pub holds : Holding max_words row xs zs

pub scan-none : (n : ℕ) (s : List ℕ) {xs zs : List ℕ} → Holding max_words (blank n []) xs zs → Scan n s xs zs 0 0
scan-none n s h = record { row = blank n []; scanning = scanning n s; holds = h }

pub scan-one : {n : ℕ} {s xs zs xs' zs' : List ℕ} {q at : ℕ} {p : Pauli} {v next : ℕ} → n ≤ max_qubits → Scan n s xs zs q at → at < length s
    → Found n q (left at s) p v (drop next s) → next ≤ length s → PauliSet v p xs zs xs' zs' → Scan n s xs' zs' (v + 1) next
scan-one {p = p} {v = v} few r h f k l =
    record {
      row = set r.row v p;
      scanning = scan-more few r.scanning h k f;
      holds = holding-more few (scan-long r.scanning) r.holds f.high l;
    }

pub scan-yes : {n : ℕ} {s xs zs : List ℕ} {q at : ℕ} → Scan n s xs zs q at → length s ≤ at → Scanned n s xs zs true
scan-yes r h = record { row = r.row; tells = scan-all r.scanning h; holds = r.holds }

pub scan-no : {n : ℕ} {s xs zs : List ℕ} {q at : ℕ} → Scan n s xs zs q at → at < length s → ((rs : List Pauli) → q + length rs ≡ n → spaced q rs ≡ left at s → left at s ≡ []) → Scanned n s xs zs false
scan-no r h f = record { row = r.row; tells = scan-stops r.scanning h f; holds = r.holds }

-- ---- the first words

take-pack : (f : Pauli → Bool) (w v : ℕ) (ps : List Pauli) → w ≤ v → take w (pack f v ps) ≡ pack f w ps
unfolding pack
take-pack f zero v ps h = refl
take-pack f (suc w) zero ps h = absurd (omega arith)
take-pack f (suc w) (suc v) ps h = ap (λ (l : List ℕ). join f (take 64 ps) ∷ l) (take-pack f w v (drop 64 ps) (omega arith))

-- ---- what a text tells of a row

told-yes : {n : ℕ} {s : List ℕ} {ps : List Pauli} {ok : Bool} → Tells n s ps ok → ok ≡ true → (length ps ≡ n) × (text_of ps ≡ s)
told-yes (a-row l t) e = (l, t)
told-yes (no_row f) e = absurd (false≢true e)

told-no : {n : ℕ} {s : List ℕ} {ps : List Pauli} {ok : Bool} → Tells n s ps ok → ok ≡ false → (qs : List Pauli) → length qs ≡ n → text_of qs ≡ s → ⊥
told-no (a-row l t) e = absurd (false≢true (sym e))
told-no (no_row f) e = f

-- the row that is told is the row that is taken
pub the_row : (n : ℕ) → n ≤ max_qubits → (s : List ℕ) (ps : List Pauli) → length ps ≡ n → text_of ps ≡ s → (is_text n s ≡ true) × (row_of n s ≡ ps)
the_row n few s ps l t =
    let y : is_text n s ≡ true = subst (λ (k : ℕ). is_text k s ≡ true) l (text-read ps s t) in
    (y, one-row n (omega arith) (row_of n s) ps (row-long n s ∙ sym l) (omega (arith, row-long n s)) (read-text n s y ∙ sym t))

pub parsed-not : {n : ℕ} {s X Z xs zs : List ℕ} {ok : Bool} → Scanned n s X Z ok → ok ≡ false → RowParsed n s xs zs xs zs false
parsed-not {n} {s} r e = record { told = sym (no_text n s (told-no r.tells e)); x-part = refl; z-part = refl }

pub parsed : {n : ℕ} → n ≤ max_qubits → {s X Z xs zs xs' zs' : List ℕ} {ok : Bool} → Scanned n s X Z ok → ok ≡ true → length xs ≡ words_of n → length zs ≡ words_of n
    → (xs' ≡ take (length xs) X) × (zs' ≡ take (length zs) Z) → RowParsed n s xs zs xs' zs' true
parsed {n} few {s} {X} {Z} {xs} {zs} r e lx lz k =
    let t = told-yes r.tells e in
    let w = the_row n few s r.row t.0 t.1 in
    let m : words_of n ≤ max_words = omega arith in
    record {
      told = sym w.0;
      x-part = k.0 ∙ (ap₂ take lx r.holds.x-is ∙ (take-pack has_x (words_of n) max_words r.row m ∙ ap (pack has_x (words_of n)) (sym w.1)));
      z-part = k.1 ∙ (ap₂ take lz r.holds.z-is ∙ (take-pack has_z (words_of n) max_words r.row m ∙ ap (pack has_z (words_of n)) (sym w.1)));
    }

-- ---- the set

pub with-here : (σ : ℕ → Row) (r : ℕ) (ps : List Pauli) (k : ℕ) → k ≡ r → with_row σ r ps k ≡ record { ps = ps; p = (σ r).p }
unfolding with_row
with-here σ r ps k e = ap (λ (b : Bool). cond b (record { ps = ps; p = (σ r).p }) (σ k)) (eq-eqb k r e)

pub with-other : (σ : ℕ → Row) (r : ℕ) (ps : List Pauli) (k : ℕ) → (k ≡ r → ⊥) → with_row σ r ps k ≡ σ k
unfolding with_row
with-other σ r ps k ne = ap (λ (b : Bool). cond b (record { ps = ps; p = (σ r).p }) (σ k)) (ne_eqb k r ne)

pub ps-here : (σ : ℕ → Row) (r : ℕ) (ps : List Pauli) → (with_row σ r ps r).ps ≡ ps
ps-here σ r ps = ap (λ (x : Row). x.ps) (with-here σ r ps r refl)

module _ (n w : ℕ) {M : Mem} (v : Valid n w M) (r : ℕ) (ps : List Pauli) where
  -- row r holds the Paulis ps, and outside of it nothing has changed
  one-new : {xs' zs' : List ℕ} → Outside (r * w) (r * w + w) M.xs xs' → Outside (r * w) (r * w + w) M.zs zs'
      → row w r xs' ≡ pack has_x w ps → row w r zs' ≡ pack has_z w ps → mem_of (count M) xs' zs' M.es ≡ lay_in w (count M) (with_row (rows_held n w M) r ps)
  unfolding rows_held
  one-new {xs'} {zs'} ox oz hx hz =
      laid_by
      (record {
        x-long = ox.long ∙ v.x-long;
        z-long = oz.long ∙ v.z-long;
        x-row = λ k h. xr k h (ℕ_discrete k r);
        z-row = λ k h. zr k h (ℕ_discrete k r);
      })
      (laid_as (count M) v.exponents (λ k. (with_row (rows_held n w M) r ps k).p) (λ k h. br k (ℕ_discrete k r)))
    where
      xr : (k : ℕ) → k < count M → Dec (k ≡ r) → row w k xs' ≡ pack has_x w (with_row (rows_held n w M) r ps k).ps
      xr k h (yes e) = ap (λ (j : ℕ). row w j xs') e ∙ (hx ∙ ap (λ (x : Row). pack has_x w x.ps) (sym (with-here (rows_held n w M) r ps k e)))
      xr k h (no ne) = row_other w k r ox ne ∙ ((v.packed k h).x-is ∙ ap (λ (x : Row). pack has_x w x.ps) (sym (with-other (rows_held n w M) r ps k ne)))

      zr : (k : ℕ) → k < count M → Dec (k ≡ r) → row w k zs' ≡ pack has_z w (with_row (rows_held n w M) r ps k).ps
      zr k h (yes e) = ap (λ (j : ℕ). row w j zs') e ∙ (hz ∙ ap (λ (x : Row). pack has_z w x.ps) (sym (with-here (rows_held n w M) r ps k e)))
      zr k h (no ne) = row_other w k r oz ne ∙ ((v.packed k h).z-is ∙ ap (λ (x : Row). pack has_z w x.ps) (sym (with-other (rows_held n w M) r ps k ne)))

      br : (k : ℕ) → Dec (k ≡ r) → exponent_at M.es k ≡ (with_row (rows_held n w M) r ps k).p
      br k (yes e) = ap (exponent_at M.es) e ∙ ap (λ (x : Row). x.p) (sym (with-here (rows_held n w M) r ps k e))
      br k (no ne) = ap (λ (x : Row). x.p) (sym (with-other (rows_held n w M) r ps k ne))

-- as the code does it: the two parts of the row are lent, and put back
pub row-parsed : (n : ℕ) {M : Mem} → Valid n (words_of n) M → (r : ℕ) (s : List ℕ) {a e : ℕ} → RowAt r (words_of n) (count M) a e → {px pz : List ℕ} {ok : Bool}
    → length px ≡ length (part a e M.xs) → length pz ≡ length (part a e M.zs) → RowParsed n s (part a e M.xs) (part a e M.zs) px pz ok
    → mem_of (count M) (put_mid a (e - a) M.xs px) (put_mid a (e - a) M.zs pz) M.es ≡ cond ok (lay_in (words_of n) (count M) (with_row (rows_held n (words_of n) M) r (row_of n s))) M
row-parsed n {M} v r s {a} {e} at {px} {pz} {ok} kx kz p = go ok p.x-part p.z-part
  where
    go : (b : Bool) → px ≡ cond b (pack has_x (words_of n) (row_of n s)) (part a e M.xs) → pz ≡ cond b (pack has_z (words_of n) (row_of n s)) (part a e M.zs)
        → mem_of (count M) (put_mid a (e - a) M.xs px) (put_mid a (e - a) M.zs pz) M.es ≡ cond b (lay_in (words_of n) (count M) (with_row (rows_held n (words_of n) M) r (row_of n s))) M
    go true ex ez =
        one-new n (words_of n) v r (row_of n s) (put_rest at M.xs px v.x-long kx) (put_rest at M.zs pz v.z-long kz)
        (put-row at M.xs px v.x-long kx ∙ ex) (put-row at M.zs pz v.z-long kz ∙ ez)
    go false ex ez =
        ap₂ (λ (x z : List ℕ). mem_of (count M) x z M.es) (ap (put_mid a (e - a) M.xs) ex ∙ put_same a (e - a) M.xs) (ap (put_mid a (e - a) M.zs) ez ∙ put_same a (e - a) M.zs)

-- ---- the call

-- no line above fits: taken, or 13
pub parse-taken : (n : ℕ) (M new : Mem) (t : List ℕ) {M' : Mem} {ok : Bool} → ok ≡ true → ok ≡ is_text n t → M' ≡ cond ok new M
    → (Ok tt ≡ done_or (no_text_number n t)) × (M' ≡ left_or (no_text_number n t) M new)
unfolding answer_or
parse-taken n M new t {M'} {ok} e told rows =
    let y : no_text_number n t ≡ 0 = ap (λ (b : Bool). cond b 0 13) (sym told ∙ e) in
    (ap done_or (sym y), rows ∙ (ap (λ (b : Bool). cond b new M) e ∙ ap (λ (k : ℕ). left_or k M new) (sym y)))

pub parse-no-text : (n : ℕ) (M new : Mem) (t : List ℕ) {M' : Mem} {ok : Bool} → ok ≡ false → ok ≡ is_text n t → M' ≡ cond ok new M
    → (Err (record { 0 = 13 }) ≡ done_or (no_text_number n t)) × (M' ≡ left_or (no_text_number n t) M new)
unfolding answer_or
parse-no-text n M new t {M'} {ok} e told rows =
    let y : no_text_number n t ≡ 13 = ap (λ (b : Bool). cond b 0 13) (sym told ∙ e) in
    (ap done_or (sym y), rows ∙ (ap (λ (b : Bool). cond b new M) e ∙ ap (λ (k : ℕ). left_or k M new) (sym y)))
