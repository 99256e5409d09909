-- What a finished reduction leaves, read off the call's contract alone: the order and the lists were taken, the memory holds the rule's rows, and the log
-- cut to its entry count holds the rule's entries; the bounds of count and t; when the log is full. Assumes nothing.
use Prim.Native.Nat.{ℕ, zero, suc, ◌+◌, ◌*◌, ◌<◌, ◌≤◌, min}
use native.Mathlib.Decide.{dec_le}
use native.Mathlib.Nat.{le-min, mul-le-mul_right}
use native.Mathlib.Omega.{arith}
use mathlib.Core.Path.{◌≡◌, refl, sym, ap, ap₂, ◌∙◌, subst, subst₂}
use mathlib.Core.Logic.{◌↔◌}
use mathlib.Core.Bool.{Bool}
use mathlib.Core.List.{List, [], ◌∷◌, ◌++◌}
use lib.ListN.{length, take}
use Rattle.pauli.specs.Pauli.{Pauli, ◌·◌}
use Rattle.pauli.specs.Row.{Row, pad_mul, mul_row, bit_row}
use Rattle.pauli.proofs.Lists.{length-each}
use Rattle.pauli.proofs.RowLaws.{pad-mul}
use Rattle.encoding.specs.Limits.{words_of}
use Rattle.encoding.specs.Set.{Mem, count, rows_held, rows_of, lay, Valid, Sound}
use Rattle.encoding.specs.Refusals.{set_lines, left_or}
use Rattle.encoding.proofs.Faults.{or-none}
use Rattle.encoding.proofs.Memory.{Proper, row_count, count-lay, read-lay, valid-lay}
use Rattle.encoding.proofs.Exponents.{exponent_small}
use Rattle.reduction.specs.Lists.{Distinct, All, different}
use Rattle.reduction.specs.Rule.{Entry, Run, mul_at, reduce}
use Rattle.reduction.specs.Replay.{replay}
use Rattle.reduction.specs.Log.{pairs, logged, capacity}
use Rattle.reduction.specs.Capacity.{Reduced, done, full, capped}
use Rattle.reduction.specs.Demand.{Asked}
use Rattle.reduction.proofs.Lists.{all-mono, in_left, most-below}
use Rattle.reduction.proofs.Run.{mul_at-ind}
use Rattle.reduction.proofs.Log.{pairs-units, cut-logged}
use Rattle.reduction.proofs.Stop.{run_fits, run-stops}
use Rattle.reduction.proofs.Theorems.{log-replays, entries-good, entries-most, pivots-listed, pivots-columns, full-exactly, log-full}
use Rattle.reduction.proofs.PauliRows.{rows-laws}
use Rattle.terms.specs.Calls.{ReductionAnswer}
use Rattle.terms.specs.Calls.{Done, LogFull, RefusedBy}
use Rattle.std.specs.Prelude.{Ok, Err}
use Rattle.encoding.specs.Ranks.{by_rank, TableLine}
use Rattle.terms.specs.Refused.{list_lines, reduce_fault}
use Rattle.terms.specs.Calls.{ReductionAnswer, reduced_number, answer_of, rows_left, entries_left, outcome_of, Reduces}
use Rattle.encoding.proofs.Ranks.{Given, given-iff, rank-append}
use Rattle.terms.proofs.Scans.{asked_of, order-once}

-- ---- rows of n qubits stay so

pub pad-long : (n : ℕ) (a b : List Pauli) → length a ≡ n → length b ≡ n → length (pad_mul a b) ≡ n
pad-long n a b p q = ap length (pad-mul a b (q ∙ sym p)) ∙ length-each ◌·◌ a b (q ∙ sym p) ∙ p

pub proper-mul : {n m : ℕ} {σ : ℕ → Row} (a b : ℕ) → a < m → b < m → Proper n m σ → Proper n m (mul_at (mul_row n) σ a b)
unfolding mul_row
proper-mul {n} {m} {σ} a b ha hb P =
    record {
      long = λ r h. mul_at-ind (mul_row n) (λ (s : Row). length s.ps ≡ n) σ a b r (λ _. pad-long n (σ a).ps (σ b).ps (P.long a ha) (P.long b hb)) (λ _. P.long r h);
      small = λ r h. mul_at-ind (mul_row n) (λ (s : Row). s.p < 4) σ a b r (λ _. omega arith) (λ _. P.small r h);
    }

pub proper-replay : {n m : ℕ} (es : List Entry) (σ : ℕ → Row) → All (λ (e : Entry). (e.target < m) × (e.source < m)) es → Proper n m σ → Proper n m (replay (mul_row n) σ es)
unfolding replay
proper-replay [] σ h P = P
proper-replay {n} (e ∷ es) σ h P = proper-replay es (mul_at (mul_row n) σ e.target e.source) h.1 (proper-mul e.target e.source h.0.0 h.0.1 P)

pub proper-set : {n : ℕ} {M : Mem} → Sound n M → Proper n (count M) (rows_of n M)
unfolding rows_held
proper-set {n} {M} s = record { long = λ r h. row_count n (words_of n) s.valid r h; small = λ r h. exponent_small M.es r }

-- ---- a finished call

pub record Finished (n : ℕ) (order listed extra : List ℕ) (M : Mem) (M' : Mem) (log' : List ℕ) (k t : ℕ) : Type 0 where
  pub asked : Asked (n + n) (count M) order listed extra
  pub no-fault : reduce_fault n M order listed extra ≡ 0
  pub entries : k ≡ length (reduce (bit_row n) (mul_row n) order listed extra (rows_of n M)).log
  pub pivots : t ≡ (reduce (bit_row n) (mul_row n) order listed extra (rows_of n M)).t
  -- the log cut to its entry count
  pub cut-log : pairs (take (k + k) log') ≡ (reduce (bit_row n) (mul_row n) order listed extra (rows_of n M)).log
  pub as_many : count M' ≡ count M
  pub laid_out : M' ≡ lay n (count M) (reduce (bit_row n) (mul_row n) order listed extra (rows_of n M)).rows

entries_in : ReductionAnswer → ℕ
entries_in (Ok c) = c.entries
entries_in (Err e) = 0

pivots_in : ReductionAnswer → ℕ
pivots_in (Ok c) = c.t
pivots_in (Err e) = 0

-- which answer it was
done-only : (f room : ℕ) (out : Reduced Row) (k t : ℕ) → Done k t ≡ answer_of f room out → (f ≡ 0) × ((s : Run Row) × (out ≡ done s) × (k ≡ length s.log) × (t ≡ s.t))
unfolding entries_in pivots_in
done-only zero room (done s) k t e = (refl, (s, refl, ap entries_in e, ap pivots_in e))
done-only zero room (full l σ) k t e = absurd (let z : ◌≡◌ {A = ℕ} 0 1 = cc in omega arith)
done-only (suc f) room out k t e = absurd (let z : ◌≡◌ {A = ℕ} 0 1 = cc in omega arith)

done-run : (bit : Row → ℕ → Bool) (mul' : Row → Row → Row) (room : ℕ) (order listed extra : List ℕ) (σ : ℕ → Row) (s : Run Row) → capped bit mul' room order listed extra σ ≡ done s → reduce bit mul' order listed extra σ ≡ s
done-run bit mul' room order listed extra σ s e = go (dec_le (length (reduce bit mul' order listed extra σ).log) room)
  where
    go : Dec (length (reduce bit mul' order listed extra σ).log ≤ room) → reduce bit mul' order listed extra σ ≡ s
    go (yes h) = let q = run_fits bit mul' room order listed extra σ h in cc
    go (no h) = absurd (let q = run-stops bit mul' room order listed extra σ (omega arith) in let z : ◌≡◌ {A = ℕ} 0 1 = cc in omega arith)

-- nothing is refused: no line of the set fits, and none of the lists
module _ (n : ℕ) (M : Mem) (order listed extra : List ℕ) (z : reduce_fault n M order listed extra ≡ 0) where
  pub none-refused : (by_rank (set_lines n M) ≡ 0) × (by_rank (list_lines n (count M) order listed extra) ≡ 0)
  none-refused = or-none _ _ (sym (rank-append (set_lines n M) (list_lines n (count M) order listed extra) refl) ∙ z)

  pub reduce-asked : Asked (n + n) (count M) order listed extra
  reduce-asked = asked_of n (count M) order listed extra none-refused.1

  pub columns-once : Distinct order
  columns-once = order-once n (count M) order listed extra none-refused.1

  -- so there are at most 2n columns, and at most m listed rows
  pub lengths-within : (length order ≤ n + n) × (length listed ≤ count M)
  lengths-within = (
    most-below (n + n) order columns-once reduce-asked.columns-in,
    most-below (count M) listed reduce-asked.once (λ k i. reduce-asked.rows_in k (in_left k listed extra i)),
  )

pub finished : (n : ℕ) (order listed extra : List ℕ) (M : Mem) (log : List ℕ) {M' : Mem} {log' : List ℕ} (k t : ℕ) → Reduces n order listed extra M log M' log' (Done k t)
    → Finished n order listed extra M M' log' k t
finished n order listed extra M log {M'} {log'} k t L =
    let f = reduce_fault n M order listed extra in
    let out = outcome_of n order listed extra M log in
    let d = done-only f (capacity log) out k t L.answer in
    let z = d.0 in
    let s = d.1.0 in
    let e : out ≡ done s = d.1.1 in
    let r : reduce (bit_row n) (mul_row n) order listed extra (rows_of n M) ≡ s = done-run (bit_row n) (mul_row n) (capacity log) order listed extra (rows_of n M) s e in
    let rows : M' ≡ lay n (count M) s.rows = L.rows ∙ ap (λ j. left_or j M (lay n (count M) (rows_left out))) z ∙ ap (λ o. lay n (count M) (rows_left o)) e in
    let log_is : log' ≡ logged s.log log = L.entries ∙ ap (λ j. left_or j log (logged (entries_left out) log)) z ∙ ap (λ o. logged (entries_left o) log) e in
    record {
      asked = reduce-asked n M order listed extra z;
      no-fault = z;
      entries = d.1.2 ∙ ap (λ (q : Run Row). length q.log) (sym r);
      pivots = d.1.3 ∙ ap (λ (q : Run Row). q.t) (sym r);
      cut-log =
          ap (λ l. pairs (take (k + k) l)) log_is
          ∙ ap (λ j. pairs (take (j + j) (logged s.log log))) d.1.2
          ∙ ap pairs (cut-logged s.log log) ∙ pairs-units s.log
          ∙ ap (λ (q : Run Row). q.log) (sym r);
      as_many = ap count rows ∙ count-lay n (words_of n) (count M) s.rows wide;
      laid_out = rows ∙ ap (λ (q : Run Row). lay n (count M) q.rows) (sym r);
    }
  where
    wide : n ≤ words_of n * 64
    wide = omega arith

-- the memory that it leaves is a row set that holds the rule's rows
module _ {n : ℕ} {order listed extra : List ℕ} {M M' : Mem} {log' : List ℕ} {k t : ℕ} (s : Sound n M) (F : Finished n order listed extra M M' log' k t) where
  rule-proper : Proper n (count M) (reduce (bit_row n) (mul_row n) order listed extra (rows_of n M)).rows
  rule-proper =
      let A = F.asked in
      subst (Proper n (count M)) (log-replays (bit_row n) (mul_row n) order listed extra (rows_of n M))
      (proper-replay (reduce (bit_row n) (mul_row n) order listed extra (rows_of n M)).log (rows_of n M)
      (all-mono (λ e g. (A.rows_in e.target g.target-in, A.rows_in e.source (in_left e.source listed extra g.source_in)))
      (reduce (bit_row n) (mul_row n) order listed extra (rows_of n M)).log (entries-good (bit_row n) (mul_row n) order listed extra (rows_of n M)))
      (proper-set s))

  pub finished-rows : (r : ℕ) → r < count M → rows_of n M' r ≡ (reduce (bit_row n) (mul_row n) order listed extra (rows_of n M)).rows r
  finished-rows r h =
      ap (λ N. rows_of n N r) F.laid_out ∙ read-lay n (words_of n) (count M) (reduce (bit_row n) (mul_row n) order listed extra (rows_of n M)).rows s.valid.wide r h (rule-proper.long r h) (rule-proper.small r h)

  pub finished-sound : Sound n M'
  finished-sound =
      record {
        valid = subst (Valid n (words_of n)) (sym F.laid_out) (valid-lay n (words_of n) (count M) (reduce (bit_row n) (mul_row n) order listed extra (rows_of n M)).rows s.valid.wide rule-proper);
        few-qubits = s.few-qubits;
        few-rows = omega (arith, F.as_many, s.few-rows);
      }

-- ---- the bounds

module _ (n : ℕ) (order listed extra : List ℕ) (M : Mem) (log : List ℕ) {M' : Mem} {log' : List ℕ} where
  -- "The count is at most t × d, where d is the number of different rows in the two lists taken together"
  pub count_most : (k t : ℕ) → Reduces n order listed extra M log M' log' (Done k t) → k ≤ t * different (listed ++ extra)
  count_most k t L =
      let F = finished n order listed extra M log k t L in
      subst₂ (λ a b. a ≤ b * different (listed ++ extra)) (sym F.entries) (sym F.pivots) (entries-most (rows-laws n) F.asked (rows_of n M))

  -- "t is at most the smaller of 2n and the number of listed rows"
  pub pivots-most : (k t : ℕ) → Reduces n order listed extra M log M' log' (Done k t) → (t ≤ n + n) × (t ≤ length listed)
  pivots-most k t L =
      let F = finished n order listed extra M log k t L in
      (subst (λ j. j ≤ n + n) (sym F.pivots) (pivots-columns (rows-laws n) F.asked (rows_of n M)), subst (λ j. j ≤ length listed) (sym F.pivots) (pivots-listed (rows-laws n) F.asked (rows_of n M)))

-- ---- refusal 8

-- which answer it was
full-only : (f room : ℕ) (out : Reduced Row) (c : ℕ) → LogFull c ≡ answer_of f room out → (f ≡ 0) × ((l : List Entry) × (σ : ℕ → Row) × (out ≡ full l σ))
full-only zero room (done s) c e = absurd (let z : ◌≡◌ {A = ℕ} 0 1 = cc in omega arith)
full-only zero room (full l σ) c e = (refl, (l, σ, refl))
full-only (suc f) room out c e = absurd (let z : ◌≡◌ {A = ℕ} 0 1 = cc in omega arith)

module _ (n : ℕ) (order listed extra : List ℕ) (M : Mem) (log : List ℕ) {M' : Mem} {log' : List ℕ} {r : ReductionAnswer} (L : Reduces n order listed extra M log M' log' r) where
  -- the log is full exactly when nothing is refused before the work, and the rule needs more entries than fit
  pub full-when : (r ≡ LogFull (capacity log)) ↔ ((reduce_fault n M order listed extra ≡ 0) × (capacity log < length (reduce (bit_row n) (mul_row n) order listed extra (rows_of n M)).log))
  full-when = (
    λ e.
        let d = full-only (reduce_fault n M order listed extra) (capacity log) (outcome_of n order listed extra M log) (capacity log) (sym e ∙ L.answer) in
        (d.0, (full-exactly (bit_row n) (mul_row n) order listed extra (rows_of n M) (capacity log)).0 d.1),
    λ h.
        L.answer ∙ ap₂ (λ f o. answer_of f (capacity log) o) h.0 (log-full (bit_row n) (mul_row n) order listed extra (rows_of n M) (capacity log) h.1),
  )

  -- it then holds exactly the first entries that fit, and the rows are those after these
  pub full-leaves : r ≡ LogFull (capacity log) → let es = take (capacity log) (reduce (bit_row n) (mul_row n) order listed extra (rows_of n M)).log in
      ((M' ≡ lay n (count M) (replay (mul_row n) (rows_of n M) es)) × (log' ≡ logged es log))
  full-leaves e =
      let h = full-when.0 e in
      let o = log-full (bit_row n) (mul_row n) order listed extra (rows_of n M) (capacity log) h.1 in (
        L.rows ∙ ap₂ (λ f o. left_or f M (lay n (count M) (rows_left o))) h.0 o,
        L.entries ∙ ap₂ (λ f o. left_or f log (logged (entries_left o) log)) h.0 o,
      )

  -- room for (the smaller of 2n and the listed rows) times d entries is always enough
  pub log-enough : min (n + n) (length listed) * different (listed ++ extra) ≤ capacity log → r ≡ LogFull (capacity log) → ⊥
  log-enough room e =
      let h = full-when.0 e in
      let σ = rows_of n M in
      let A = reduce-asked n M order listed extra h.0 in
      let s = reduce (bit_row n) (mul_row n) order listed extra σ in
      let t-most : s.t ≤ min (n + n) (length listed) = le-min (pivots-columns (rows-laws n) A σ) (pivots-listed (rows-laws n) A σ) in
      omega (arith, h.1, entries-most (rows-laws n) A σ, mul-le-mul_right (different (listed ++ extra)) t-most, room)

-- ---- the numbers that are tested first: k + 1 is given exactly when its line of the table fits and none before it does

refused-only : (room : ℕ) (o : Reduced Row) (f k : ℕ) → answer_of f room o ≡ RefusedBy (suc k) → f ≡ suc k
refused-only room (done s) zero k e = let z : ◌≡◌ {A = ℕ} 0 1 = cc in absurd (omega arith)
refused-only room (full l σ) zero k e = let z : ◌≡◌ {A = ℕ} 0 1 = cc in absurd (omega arith)
refused-only room o (suc f) k e = ap reduced_number e

pub canonicalized-refused : (room : ℕ) (out : Reduced Row) (ls : List TableLine) (k : ℕ) → (answer_of (by_rank ls) room out ≡ RefusedBy (suc k)) ↔ Given (suc k) ls
canonicalized-refused room out = given-iff RefusedBy (λ f. answer_of f room out) (λ k. refl) (refused-only room out)
