-- The calls: from the first number that fits, and from what the workers leave, to the answer, the rows and the log. At a number all is as it was; where there
-- is none the lists are as the theorems ask, and the run in memory is the rule's. Assumes nothing.
use Prim.Native.Nat.{ℕ, zero, suc, ◌+◌, ◌-◌, ◌/◌, ◌<◌, ◌≤◌}
use native.Mathlib.Decide.{ℕ_discrete}
use native.Mathlib.Omega.{arith}
use mathlib.Core.Path.{◌≡◌, refl, sym, ap, ap₂, ◌∙◌, subst}
use mathlib.Core.Bool.{true, false, ◌||◌}
use mathlib.Core.List.{List, []}
use lib.Arith.{lt_of_le-ne}
use lib.ListN.{length, get_or, take, set}
use lib.Seq.{length-take-le, ext_get_or, get_or-take, get_or-set_same, get_or-set_other}
use borrow.Author.Tests.{leb-false}
use Rattle.pauli.specs.Row.{Row, mul_row, bit_row}
use Rattle.encoding.specs.Limits.{max_qubits, max_rows, words_of}
use Rattle.encoding.specs.Set.{Mem, count, rows_of, lay, Sound}
use Rattle.encoding.specs.Refusals.{too_large, set_lines, Readable, left_or}
use Rattle.encoding.proofs.Scan.{none_of}
use Rattle.encoding.proofs.Faults.{or_else}
use Rattle.encoding.proofs.Memory.{laid}
use Rattle.encoding.proofs.Parts.{length-list, get_or-list}
use Rattle.reduction.specs.Rule.{mul_at}
use Rattle.reduction.specs.Log.{pairs, logged, capacity}
use Rattle.reduction.specs.Capacity.{Reduced, done, full, capped}
use Rattle.reduction.specs.Workers.{through, column_c}
use Rattle.reduction.proofs.Lists.{in-get_or, in_left, in_right}
use Rattle.reduction.proofs.Log.{length-first, logged-is}
use Rattle.reduction.proofs.Stop.{stops-is-capped}
use Rattle.late.specs.Workers.{Come}
use Rattle.terms.specs.Calls.{ReductionAnswer, Done, LogFull, RefusedBy}
use Rattle.encoding.specs.Ranks.{by_rank}
use Rattle.terms.specs.Refused.{list_lines, reduce_fault, Reducible}
use Rattle.pauli.specs.Rows.{clashes_of}
use Rattle.terms.specs.Workers.{mul_in, clashes_in, Below, run_of, outcome, start, Does, ListsIn}
use Rattle.terms.specs.Calls.{answer_of, number_for, rows_left, entries_left, Leaves, outcome_of, whole_outcome, up_to}
use Rattle.encoding.proofs.Ranks.{rank-append}
use Rattle.terms.proofs.Scans.{asked_of, order-once}
use Rattle.terms.proofs.RowView.{mul-view, clashes-view}

-- ---- what no refusal leaves

-- the set's number comes before those of the lists
pub by_parts : (n : ℕ) (M : Mem) (order listed extra : List ℕ) → or_else (by_rank (set_lines n M)) (by_rank (list_lines n (count M) order listed extra)) ≡ reduce_fault n M order listed extra
by_parts n M order listed extra = sym (rank-append (set_lines n M) (list_lines n (count M) order listed extra) refl)

pub reduce-told : (n : ℕ) (M : Mem) (order listed extra : List ℕ) → Sound n M → by_rank (list_lines n (count M) order listed extra) ≡ 0 → Reducible n order listed extra M
reduce-told n M order listed extra s e =
    record { sound = s; asked = asked_of n (count M) order listed extra e; columns-once = order-once n (count M) order listed extra e }

-- the numbers of the lists by their places
pub lists-in : {n : ℕ} {order listed extra : List ℕ} {M : Mem} → Reducible n order listed extra M → ListsIn n order listed extra M
lists-in {n} {order} {listed} {extra} {M} r =
    record {
      sound = r.sound;
      order-in = λ i h. r.asked.columns-in (get_or order i 0) (in-get_or order i h);
      listed_in = λ i h. r.asked.rows_in (get_or listed i 0) (in_left (get_or listed i 0) listed extra (in-get_or listed i h));
      extra-in = λ i h. r.asked.rows_in (get_or extra i 0) (in_right (get_or extra i 0) listed extra (in-get_or extra i h));
    }

-- ---- the product of two rows

module _ (n a b : ℕ) (M : Mem) where
  pub imul-done : {c : ℕ} {M' : Mem} → Readable n M (too_large (count M) a || too_large (count M) b)
      → (M' ≡ mul_in n a b M) × (c ≡ clashes_in n a b M)
      → (M' ≡ lay n (count M) (mul_at (mul_row n) (rows_of n M) a b)) × (c ≡ clashes_of n (rows_of n M a) (rows_of n M b))
  imul-done h q =
      let p = none_of (too_large (count M) a) (too_large (count M) b) h.small in
      let a_in = leb-false (count M) a p.0 in
      let b-in = leb-false (count M) b p.1 in
      (q.0 ∙ (mul-view h.ready a b a_in b-in).laid_out, q.1 ∙ clashes-view h.ready a b a_in b-in)

-- ---- reduction

pub reduce-refused : (n f g : ℕ) (out : Reduced Row) (M : Mem) (log : List ℕ) → g ≡ f → (g ≡ 0 → ⊥) → Leaves n f out M log M log (RefusedBy g)
reduce-refused n f zero out M log e ne = absurd (ne refl)
reduce-refused n f (suc g) out M log e ne =
    record {
      answer = ap (λ k. answer_of k (capacity log) out) e;
      number = ap (λ k. number_for k out) e;
      rows = ap (λ k. left_or k M (lay n (count M) (rows_left out))) e;
      entries = ap (λ k. left_or k log (logged (entries_left out) log)) e;
    }

-- no number fits
pub leaves_at : {n f : ℕ} {out : Reduced Row} {M : Mem} {log : List ℕ} {M' : Mem} {log' : List ℕ} {r : ReductionAnswer} → 0 ≡ f → Leaves n 0 out M log M' log' r → Leaves n f out M log M' log' r
leaves_at {n} {f} {out} {M} {log} {M'} {log'} {r} e L = subst (λ k. Leaves n k out M log M' log' r) e L

module _ (n : ℕ) (order listed extra : List ℕ) {M₀ : Mem} {log₀ : List ℕ} {M : Mem} {log : List ℕ} {s : Come}
    (L : Does n (through (column_c (bit_row n) (mul_row n) (capacity log₀) listed extra) order) M₀ log₀ start M log s) where
  out : Reduced Row
  out = capped (bit_row n) (mul_row n) (capacity log₀) order listed extra (rows_of n M₀)

  whole : outcome s.full (run_of n M log s) ≡ capped (bit_row n) (mul_row n) (capacity log₀) order listed extra (rows_of n M₀)
  unfolding run_of pairs
  whole = L.result ∙ stops-is-capped (bit_row n) (mul_row n) (capacity log₀) listed extra order (rows_of n M₀)

  there : length (pairs (take (s.entries + s.entries) log)) ≡ s.entries
  there = length-first s.entries log L.room

  rows-laid : M ≡ lay n (count M₀) (rows_of n M)
  rows-laid = laid n (words_of n) L.keeps.sound.valid refl ∙ ap (λ m. lay n m (rows_of n M)) L.keeps.many

  log-laid : log ≡ logged (pairs (take (s.entries + s.entries) log)) log₀
  log-laid = logged-is s.entries log log₀ L.room L.log-len L.past

  pub ends-done : s.full ≡ false → Leaves n 0 (capped (bit_row n) (mul_row n) (capacity log₀) order listed extra (rows_of n M₀)) M₀ log₀ M log (Done s.entries s.t)
  unfolding outcome run_of
  ends-done q =
      let e : done (run_of n M log s) ≡ capped (bit_row n) (mul_row n) (capacity log₀) order listed extra (rows_of n M₀) = sym (ap (λ b. outcome b (run_of n M log s)) q) ∙ whole in
      record {
        answer = ap (λ (k : ℕ). Done k s.t) (sym there) ∙ ap (answer_of 0 (capacity log₀)) e;
        number = ap (number_for 0) e;
        rows = rows-laid ∙ ap (λ o. lay n (count M₀) (rows_left o)) e;
        entries = log-laid ∙ ap (λ o. logged (entries_left o) log₀) e;
      }

  pub ends-full : s.full ≡ true → Leaves n 0 (capped (bit_row n) (mul_row n) (capacity log₀) order listed extra (rows_of n M₀)) M₀ log₀ M log (LogFull (capacity log))
  unfolding outcome run_of
  ends-full q =
      let e : full (pairs (take (s.entries + s.entries) log)) (rows_of n M) ≡ capped (bit_row n) (mul_row n) (capacity log₀) order listed extra (rows_of n M₀)
      = sym (ap (λ b. outcome b (run_of n M log s)) q) ∙ whole in
      record {
        answer = ap (λ (k : ℕ). LogFull (k / 2)) L.log-len ∙ ap (answer_of 0 (capacity log₀)) e;
        number = ap (number_for 0) e;
        rows = rows-laid ∙ ap (λ o. lay n (count M₀) (rows_left o)) e;
        entries = log-laid ∙ ap (λ o. logged (entries_left o) log₀) e;
      }

-- ---- all columns, all rows

-- one number more
pub count-more : (l : List ℕ) (i : ℕ) → i < length l → ((j : ℕ) → j < i → get_or l j 0 ≡ j) → (j : ℕ) → j < i + 1 → get_or (set l i i) j 0 ≡ j
count-more l i h f j g = go (ℕ_discrete j i)
  where
    go : Dec (j ≡ i) → get_or (set l i i) j 0 ≡ j
    go (yes e) = ap (λ k. get_or (set l i i) k 0) e ∙ get_or-set_same l i i 0 h ∙ sym e
    go (no ne) = get_or-set_other l i j i 0 ne ∙ f j (lt_of_le-ne (omega arith) ne)

pub count-all : (l : List ℕ) (m : ℕ) → length l ≡ m → ((j : ℕ) → j < m → get_or l j 0 ≡ j) → l ≡ up_to m
count-all l m e f =
    ext_get_or 0 l (up_to m) (e ∙ sym (length-list m (λ k. k))) (λ i h. let g : i < m = omega arith in f i g ∙ sym (get_or-list m (λ k. k) i 0 g))

-- the first of the numbers up to a limit
take-up : (k m : ℕ) → k ≤ m → take k (up_to m) ≡ up_to k
take-up k m h =
    let l : length (take k (up_to m)) ≡ k = length-take-le k (up_to m) (omega (arith, length-list m (λ i. i))) in
    count-all (take k (up_to m)) k l (λ j g. get_or-take k (up_to m) j 0 g ∙ get_or-list m (λ i. i) j 0 (omega arith))

below_up : (k m : ℕ) → k ≤ m → Below m (up_to k)
below_up k m h i g =
    let g' : i < k = omega (arith, length-list k (λ j. j)) in
    subst (λ v. v < m) (sym (get_or-list k (λ j. j) i 0 g')) (omega arith)

pub up-long : (m : ℕ) {l : List ℕ} → l ≡ up_to m → length l ≡ m
up-long m e = ap length e ∙ length-list m (λ i. i)

-- the parts that are lent, of lists of all numbers up to the limits
module _ {n : ℕ} {M : Mem} (s : Sound n M) {columns rows : List ℕ} (ec : columns ≡ up_to (max_qubits + max_qubits)) (er : rows ≡ up_to max_rows) where
  columns-part : take (n + n - 0) columns ≡ up_to (n + n)
  columns-part = let z : n + n - 0 ≡ n + n = omega arith in ap₂ take z ec ∙ take-up (n + n) (max_qubits + max_qubits) (omega (arith, s.few-qubits))

  rows-part : take (count M - 0) rows ≡ up_to (count M)
  rows-part = let z : count M - 0 ≡ count M = omega arith in ap₂ take z er ∙ take-up (count M) max_rows s.few-rows

  pub lists-all : ListsIn n (take (n + n - 0) columns) (take (count M - 0) rows) [] M
  lists-all =
      record {
        sound = s;
        order-in = subst (Below (n + n)) (sym columns-part) (below_up (n + n) (n + n) (omega arith));
        listed_in = subst (Below (count M)) (sym rows-part) (below_up (count M) (count M) (omega arith));
        extra-in = λ i h. absurd (omega arith);
      }

  pub leaves_all : {log : List ℕ} {M' : Mem} {log' : List ℕ} {r : ReductionAnswer} → Leaves n 0 (outcome_of n (take (n + n - 0) columns) (take (count M - 0) rows) [] M log) M log M' log' r
      → Leaves n 0 (whole_outcome n M log) M log M' log' r
  leaves_all {log} {M'} {log'} {r} L = subst (λ o. Leaves n 0 o M log M' log' r) (ap₂ (λ u v. outcome_of n u v [] M log) columns-part rows-part) L
