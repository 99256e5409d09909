-- RULES 15.6 to 15.8, from the contracts alone: what is written is read back, what was read is written, a text is the text of one row, and an output
-- of the longest length is enough. A text settles its row since rows with the same text are the same (Spelling.one-row).
use Rattle.row_text.proofs.Kit.{◌≡◌, refl, sym, ap, ap₂, ◌∙◌, subst, Bool, true, false, cond, List, ◌++◌, ℕ, ◌*◌, ◌<◌, ◌≤◌, arith, ℕ_discrete, leb-false, lt-leb, le-ltb, length, take, drop, Pauli}
use lib.Seq.{take_at}
use mathlib.Core.Path.{fun_ext}
use Rattle.pauli.specs.Row.{Row}
use Rattle.pauli.proofs.RowLaws.{row-eq}
use Rattle.encoding.specs.Limits.{max_qubits, max_rows, words_of}
use Rattle.encoding.specs.Set.{Mem, count, rows_of, lay, Sound}
use Rattle.encoding.specs.Refusals.{too_large, answer_or, done_or, left_or}
use Rattle.encoding.specs.declared.Refusal.{Refusal}
use Rattle.std.specs.Prelude.{Result, Ok}
use Rattle.encoding.proofs.Memory.{Proper, read-lay, count-lay, valid-lay, lay-back, within-limits}
use Rattle.encoding.proofs.Sets.{read-proper, read_none, read-passes}
use Rattle.cmpnt_list.specs.Calls.{row_fault}
use Rattle.row_text.specs.Text.{text_of, is_text, row_of, longest}
use Rattle.row_text.specs.Calls.{fmt_fault, FmtElem, with_row, parse_fault, ParseElem}
use Rattle.row_text.specs.Workers.{falls_short, no_text_number}
use Rattle.encoding.proofs.Faults.{or_else, or-none}
use Rattle.row_text.proofs.Lines.{fmt-in-turn, parse-in-turn}
use Rattle.row_text.proofs.Rows.{read-text, row-long}
use Rattle.row_text.proofs.Spelling.{one-row}
use Rattle.row_text.proofs.Sizes.{at_most, all-x, long-all, as_long}
use Rattle.row_text.proofs.InRow.{the_row, with-here, with-other, ps-here}

-- ---- what no refusal tells

text-taken : (n : ℕ) (t : List ℕ) → no_text_number n t ≡ 0 → is_text n t ≡ true
text-taken n t e = go (is_text n t) e
  where
    go : (b : Bool) → ◌≡◌ {A = ℕ} (cond b 0 13) 0 → b ≡ true
    go true e = refl
    go false e = absurd (omega arith)

-- a set that is passed, and a row of it
record Row-of (n : ℕ) (M : Mem) (r : ℕ) : Type 0 where
  few : n ≤ max_qubits
  few-rows : count M ≤ max_rows
  proper : Proper n (count M) (rows_of n M)
  there : r < count M

row-of : (n : ℕ) (M : Mem) (r : ℕ) → row_fault n M r ≡ 0 → Row-of n M r
row-of n M r e =
    let p = read_none n M (too_large (count M) r) e in
    record {
      few = (within-limits n M p.0).0;
      few-rows = (within-limits n M p.0).1;
      proper = read-proper n M p.0;
      there = leb-false (count M) r p.1;
    }

-- what stands in the output behind a call that is not refused
pub the-text : (n : ℕ) (M : Mem) (r : ℕ) (out : List ℕ) {out' : List ℕ} {a : Result ℕ Refusal} → FmtElem n M r out out' a → fmt_fault n M r out ≡ 0
    → (a ≡ Ok (length (text_of (rows_of n M r).ps))) × (take (length (text_of (rows_of n M r).ps)) out' ≡ text_of (rows_of n M r).ps)
unfolding answer_or
the-text n M r out {out'} w e =
    let t = text_of (rows_of n M r).ps in (
      w.answer ∙ ap (λ (k : ℕ). answer_or k (length t)) e,
      ap (take (length t)) (w.bytes ∙ ap (λ (k : ℕ). left_or k out (t ++ drop (length t) out)) e) ∙ take_at t (drop (length t) out) (length t) refl,
    )

-- what a text that is taken leaves
taken : {n : ℕ} {M M' : Mem} {r : ℕ} {t : List ℕ} {a : Result Unit Refusal} → ParseElem n M r t M' a → parse_fault n M r t ≡ 0
    → (a ≡ Ok tt) × (M' ≡ lay n (count M) (with_row (rows_of n M) r (row_of n t)))
unfolding answer_or
taken {n} {M} {M'} {r} {t} p e =
    (p.answer ∙ ap done_or e, p.rows ∙ ap (λ (k : ℕ). left_or k M (lay n (count M) (with_row (rows_of n M) r (row_of n t)))) e)

new_row : (n : ℕ) (M : Mem) (r : ℕ) (t : List ℕ) → r < count M → (rows_of n M r).p < 4 → (rows_of n (lay n (count M) (with_row (rows_of n M) r (row_of n t))) r).ps ≡ row_of n t
new_row n M r t h s =
    let σ = with_row (rows_of n M) r (row_of n t) in
    let e = ps-here (rows_of n M) r (row_of n t) in
    let small : (σ r).p < 4 = subst (λ (x : Row). x.p < 4) (sym (with-here (rows_of n M) r (row_of n t) r refl)) s in
    ap (λ (x : Row). x.ps) (read-lay n (words_of n) (count M) σ (omega arith) r h (ap length e ∙ row-long n t) small) ∙ e

-- ---- 15.6: reading a written row gives its Paulis back, in any row of any set of n qubits

pub written_read : (n : ℕ) (M : Mem) (r : ℕ) (out : List ℕ) {out' : List ℕ} {a : Result ℕ Refusal} {N N' : Mem} {q : ℕ} {b : Result Unit Refusal}
    → FmtElem n M r out out' a → fmt_fault n M r out ≡ 0 → row_fault n N q ≡ 0
    → ParseElem n N q (take (length (text_of (rows_of n M r).ps)) out') N' b
    → (b ≡ Ok tt) × ((rows_of n N' q).ps ≡ (rows_of n M r).ps)
written_read n M r out {out'} {a} {N} {N'} {q} {b} w e f p =
    let ps = (rows_of n M r).ps in
    let t = text_of ps in
    let m = row-of n M r (or-none (row_fault n M r) (falls_short ps out) (sym (fmt-in-turn n M r out) ∙ e)).0 in
    let k = row-of n N q f in
    let d = the_row n m.few t ps (m.proper.long r m.there) refl in
    let p' : ParseElem n N q t N' b = subst (λ (s : List ℕ). ParseElem n N q s N' b) (the-text n M r out w e).1 p in
    let z : parse_fault n N q t ≡ 0 = parse-in-turn n N q t ∙ ap (λ (j : ℕ). or_else j (no_text_number n t)) f ∙ ap (λ (c : Bool). cond c 0 13) d.0 in
    let s = taken p' z in
    (s.0, ap (λ (L : Mem). (rows_of n L q).ps) s.1 ∙ (new_row n N q t k.there (k.proper.small q k.there) ∙ d.1))

-- and a text that was read is what is written then
pub read-written : {n : ℕ} {M M' : Mem} {r : ℕ} {t : List ℕ} {b : Result Unit Refusal} {out out' : List ℕ} {a : Result ℕ Refusal}
    → ParseElem n M r t M' b → parse_fault n M r t ≡ 0 → FmtElem n M' r out out' a → fmt_fault n M' r out ≡ 0
    → (a ≡ Ok (length t)) × (take (length t) out' ≡ t)
read-written {n} {M} {M'} {r} {t} {b} {out} {out'} {a} p e w f =
    let o = or-none (row_fault n M r) (no_text_number n t) (sym (parse-in-turn n M r t) ∙ e) in
    let m = row-of n M r o.0 in
    let s = taken p e in
    let x : (rows_of n M' r).ps ≡ row_of n t = ap (λ (L : Mem). (rows_of n L r).ps) s.1 ∙ new_row n M r t m.there (m.proper.small r m.there) in
    let y : text_of (rows_of n M' r).ps ≡ t = ap text_of x ∙ read-text n t (text-taken n t o.1) in
    let v = the-text n M' r out w f in
    (v.0 ∙ ap (λ (l : List ℕ). Ok (length l)) y, subst (λ (l : List ℕ). take (length l) out' ≡ l) y v.1)

-- and reading it again changes nothing
with-same : (σ : ℕ → Row) (r : ℕ) (ps : List Pauli) → (σ r).ps ≡ ps → with_row σ r ps ≡ σ
with-same σ r ps e = fun_ext (λ k. go k (ℕ_discrete k r))
  where
    go : (k : ℕ) → Dec (k ≡ r) → with_row σ r ps k ≡ σ k
    go k (yes f) = with-here σ r ps k f ∙ (row-eq (sym e) refl ∙ ap σ (sym f))
    go k (no ne) = with-other σ r ps k ne

with-proper : (n m : ℕ) (σ : ℕ → Row) (r : ℕ) (t : List ℕ) → Proper n m σ → r < m → Proper n m (with_row σ r (row_of n t))
with-proper n m σ r t p h = record { long = λ k l. long k l (ℕ_discrete k r); small = λ k l. small k l (ℕ_discrete k r) }
  where
    long : (k : ℕ) → k < m → Dec (k ≡ r) → length (with_row σ r (row_of n t) k).ps ≡ n
    long k l (yes e) = ap (λ (x : Row). length x.ps) (with-here σ r (row_of n t) k e) ∙ row-long n t
    long k l (no ne) = ap (λ (x : Row). length x.ps) (with-other σ r (row_of n t) k ne) ∙ p.long k l

    small : (k : ℕ) → k < m → Dec (k ≡ r) → (with_row σ r (row_of n t) k).p < 4
    small k l (yes e) = subst (λ (x : Row). x.p < 4) (sym (with-here σ r (row_of n t) k e)) (p.small r h)
    small k l (no ne) = subst (λ (x : Row). x.p < 4) (sym (with-other σ r (row_of n t) k ne)) (p.small k l)

pub read_again : {n : ℕ} {M M' M'' : Mem} {r : ℕ} {t : List ℕ} {a b : Result Unit Refusal} → ParseElem n M r t M' a → parse_fault n M r t ≡ 0 → ParseElem n M' r t M'' b
    → (b ≡ Ok tt) × (M'' ≡ M')
read_again {n} {M} {M'} {M''} {r} {t} {a} {b} p e q =
    let o = or-none (row_fault n M r) (no_text_number n t) (sym (parse-in-turn n M r t) ∙ e) in
    let m = row-of n M r o.0 in
    let w = words_of n in
    let σ = with_row (rows_of n M) r (row_of n t) in
    let s = taken p e in
    let wide : n ≤ w * 64 = omega arith in
    let sound : Sound n (lay n (count M) σ) =
    record {
      valid = valid-lay n w (count M) σ wide (with-proper n (count M) (rows_of n M) r t m.proper m.there);
      few-qubits = m.few;
      few-rows = subst (λ (k : ℕ). k ≤ max_rows) (sym (count-lay n w (count M) σ wide)) m.few-rows;
    } in
    let sound' : Sound n M' = subst (Sound n) (sym s.1) sound in
    let there : r < count M' = subst (λ (k : ℕ). r < k) (sym (ap count s.1 ∙ count-lay n w (count M) σ wide)) m.there in
    let f : row_fault n M' r ≡ 0 = read-passes n M' sound' (too_large (count M') r) (lt-leb (count M') r there) in
    let g : parse_fault n M' r t ≡ 0 = parse-in-turn n M' r t ∙ ap₂ or_else f o.1 in
    let x : (rows_of n M' r).ps ≡ row_of n t = ap (λ (L : Mem). (rows_of n L r).ps) s.1 ∙ new_row n M r t m.there (m.proper.small r m.there) in
    let k = taken q g in
    (k.0, k.1 ∙ (ap (lay n (count M')) (with-same (rows_of n M') r (row_of n t) x) ∙ lay-back n w sound'.valid))

-- ---- 15.7: a text that is read is the text of one row of n qubits, the one that is taken

pub only_row : (n : ℕ) → n ≤ max_qubits → (t : List ℕ) → is_text n t ≡ true → (text_of (row_of n t) ≡ t) × ((ps : List Pauli) → length ps ≡ n → text_of ps ≡ t → ps ≡ row_of n t)
only_row n few t e =
    (read-text n t e, λ ps l k. one-row n (omega arith) ps (row_of n t) (l ∙ sym (row-long n t)) (omega arith) (k ∙ sym (read-text n t e)))

-- the text of a row is read as that row
pub read_back : (n : ℕ) → n ≤ max_qubits → (ps : List Pauli) → length ps ≡ n → (is_text n (text_of ps) ≡ true) × (row_of n (text_of ps) ≡ ps)
read_back n few ps l = the_row n few (text_of ps) ps l refl

-- ---- 15.8: an output of the longest length never draws 14

pub never-short : (n : ℕ) (M : Mem) (r : ℕ) (out : List ℕ) → row_fault n M r ≡ 0 → longest n ≤ length out → fmt_fault n M r out ≡ 0
never-short n M r out e h =
    let ps = (rows_of n M r).ps in
    let m = row-of n M r e in
    let l : length ps ≡ n = m.proper.long r m.there in
    let k : length (text_of ps) ≤ longest n = subst (λ (j : ℕ). length (text_of ps) ≤ longest j) l (at_most ps (omega (arith, m.few))) in
    fmt-in-turn n M r out ∙ ap (λ (j : ℕ). or_else j (falls_short ps out)) e ∙ ap (λ (c : Bool). cond c 14 0) (le-ltb (length out) (length (text_of ps)) (fit k h))
  where
    fit : {a b c : ℕ} → a ≤ b → b ≤ c → a ≤ c
    fit h k = omega arith

-- and no shorter one is enough for all rows
pub as-long-as : (n : ℕ) → n ≤ max_qubits → (length (all-x n) ≡ n) × (length (text_of (all-x n)) ≡ longest n)
as-long-as n few = (long-all n, as_long n (omega arith))

-- ---- two outcomes that a contract allows are the same

pub fmt-settled : (n : ℕ) (M : Mem) (r : ℕ) {out u v : List ℕ} {a b : Result ℕ Refusal} → FmtElem n M r out u a → FmtElem n M r out v b → (a ≡ b) × (u ≡ v)
fmt-settled n M r x y = (x.answer ∙ sym y.answer, x.bytes ∙ sym y.bytes)

pub parse-settled : {n : ℕ} {M : Mem} {r : ℕ} {t : List ℕ} {L N : Mem} {a b : Result Unit Refusal} → ParseElem n M r t L a → ParseElem n M r t N b → (a ≡ b) × (L ≡ N)
parse-settled x y = (x.answer ∙ sym y.answer, x.rows ∙ sym y.rows)
