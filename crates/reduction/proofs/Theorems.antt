-- The theorems about the reduction rule and its checker, over any rows with bits and a product that have the laws of specs/Laws.antt. `terms` and
-- `replay` cite them at Pauli rows: `(rows-laws n)` and `(rows_tell n)` of proofs/PauliRows.antt stand first. Assumes nothing.
use Prim.Native.Nat.{ℕ, ◌*◌, ◌<◌, ◌≤◌}
use mathlib.Core.Path.{◌≡◌, ◌∙◌}
use mathlib.Core.Logic.{◌↔◌}
use mathlib.Core.Bool.{Bool, true}
use mathlib.Core.Option.{none}
use mathlib.Core.List.{List, ◌++◌}
use lib.ListN.{length, take}
use Rattle.reduction.specs.Lists.{different, All}
use Rattle.reduction.specs.Rule.{Entry, reduce}
use Rattle.reduction.specs.Replay.{replay}
use Rattle.reduction.specs.Capacity.{done, full, capped}
use Rattle.reduction.specs.Form.{ReducedForm, reduced}
use Rattle.reduction.specs.Checker.{first_bad, bad_entry, differs, not_reduced, accepted, verdict, working}
use Rattle.reduction.specs.Demand.{Asked, Good, Agree, Right, NamesAll, NoPhase}
use Rattle.reduction.specs.Laws.{Laws}
use Rattle.reduction.proofs.Lists.{all_take}
use Rattle.reduction.proofs.Run.{run-replay, run-good}
use Rattle.reduction.proofs.Walk.{run-walk}
use Rattle.reduction.proofs.Forms.{walk-iff-form, walk-pivots, test-iff-walk}
use Rattle.reduction.proofs.Bounds.{run_length, run-t-listed, run-t-order, run-t-columns}
use Rattle.reduction.proofs.Stop.{run_fits, run-stops, full-long}
use Rattle.reduction.proofs.Entries.{BadAt, none-bad}
use Rattle.reduction.proofs.Checker.{DiffersAt, yes→right, right→yes, bad-first, bad-keeps, differs-first, not-reduced, right-bits, right-phases}

-- ---- the rule: any rows with bits and a product

module _ {R : Type 0} (bit : R → ℕ → Bool) (mul : R → R → R) (order listed extra : List ℕ) (σ : ℕ → R) where
  -- (a) The rule's log replays to the rule's rows.
  pub log-replays : let s = reduce bit mul order listed extra σ in (replay mul σ s.log ≡ s.rows)
  log-replays = run-replay bit mul order listed extra σ

  -- (f) Each entry of the rule's log passes the checker's entry test: as worded, and as tested. So does each entry of a log cut short.
  pub entries-good : All (Good listed extra) (reduce bit mul order listed extra σ).log
  entries-good = run-good bit mul order listed extra σ

  pub no-bad-entry : first_bad listed extra 0 (reduce bit mul order listed extra σ).log ≡ none
  no-bad-entry = none-bad listed extra 0 (reduce bit mul order listed extra σ).log entries-good

  pub cut-entries-good : (capacity : ℕ) → All (Good listed extra) (take capacity (reduce bit mul order listed extra σ).log)
  cut-entries-good capacity = all_take (Good listed extra) capacity (reduce bit mul order listed extra σ).log entries-good

  -- (e) With a capacity: where what the rule needs fits, the rule's run; where it needs more, exactly the first entries and the rows after them.
  pub all-fits : (capacity : ℕ) → let s = reduce bit mul order listed extra σ in (length s.log ≤ capacity → capped bit mul capacity order listed extra σ ≡ done s)
  all-fits capacity = run_fits bit mul capacity order listed extra σ

  pub log-full : (capacity : ℕ) → let s = reduce bit mul order listed extra σ in let first-entries = take capacity s.log in
      (capacity < length s.log → capped bit mul capacity order listed extra σ ≡ full first-entries (replay mul σ first-entries))
  log-full capacity = run-stops bit mul capacity order listed extra σ

  -- It is full exactly when the rule needs more entries than fit.
  pub full-exactly : (capacity : ℕ) → ((l : List Entry) × (τ : ℕ → R) × (capped bit mul capacity order listed extra σ ≡ full l τ)) ↔ (capacity < length (reduce bit mul order listed extra σ).log)
  full-exactly capacity = (
    λ h. full-long bit mul capacity order listed extra σ h.0 h.1 h.2,
    λ h. let l = take capacity (reduce bit mul order listed extra σ).log in (l, replay mul σ l, log-full capacity h),
  )

-- ---- rows with the laws, lists that refusals 6 and 7 pass

module _ {R : Type 0} {bit : R → ℕ → Bool} {mul : R → R → R} {ph : R → ℕ} {expo : R → R → ℕ} {N : ℕ} (laws : Laws bit mul ph expo N)
    {m : ℕ} {order listed extra : List ℕ} (asked : Asked N m order listed extra) (σ : ℕ → R) where
  -- (b) The rule's rows are in reduced form: as worded, with the rule's own t, and as tested.
  pub rows-in-form : let s = reduce bit mul order listed extra σ in ((form : ReducedForm bit order listed extra s.rows) × (form.t ≡ s.t))
  rows-in-form =
      let s = reduce bit mul order listed extra σ in
      let w = run-walk bit mul laws.bit-mul listed extra asked.once order σ in
      ((walk-iff-form bit order listed extra asked.once s.rows).0 w.0, walk-pivots bit order listed extra asked.once s.rows w.0 ∙ w.1)

  pub rows-reduced : reduced bit order listed extra (reduce bit mul order listed extra σ).rows ≡ true
  rows-reduced =
      (test-iff-walk bit order listed extra asked.once (reduce bit mul order listed extra σ).rows).1
      (run-walk bit mul laws.bit-mul listed extra asked.once order σ).0

  -- (c) "The count is at most t × d, where d is the number of different rows in the two lists taken together"
  pub entries-most : let s = reduce bit mul order listed extra σ in (length s.log ≤ s.t * different (listed ++ extra))
  entries-most = run_length bit mul laws.bit-mul listed extra order σ

  -- (d) "t is at most the smaller of 2n and the number of listed rows": N is 2n. It is also at most the number of different columns of the order.
  pub pivots-listed : (reduce bit mul order listed extra σ).t ≤ length listed
  pivots-listed = run-t-listed bit mul laws.bit-mul listed extra order σ

  pub pivots-columns : (reduce bit mul order listed extra σ).t ≤ N
  pivots-columns = run-t-columns bit mul laws.bit-mul listed extra asked.once N order asked.columns-in σ

  pub pivots-order : (reduce bit mul order listed extra σ).t ≤ different order
  pivots-order = run-t-order bit mul laws.bit-mul listed extra asked.once order σ

-- ---- the checker: a test `alike` that tells whether two rows agree in every bit and in the phase

module _ {R : Type 0} {bit : R → ℕ → Bool} {mul : R → R → R} {ph : R → ℕ} {expo : R → R → ℕ} {N : ℕ} (laws : Laws bit mul ph expo N)
    {alike : R → R → Bool} (tells : (a b : R) → (alike a b ≡ true) ↔ Agree bit ph N a b)
    {m : ℕ} {order listed extra : List ℕ} (asked : Asked N m order listed extra) (σ : ℕ → R) where
  -- (g) Yes exactly when each entry multiplies a listed or extra row by a different, listed row, the full replay gives the claimed bits and phases,
  -- and these stand in reduced form.
  pub yes-exactly : (log : List Entry) (claimed : ℕ → R) → (verdict bit mul alike m order listed extra σ log claimed ≡ accepted) ↔ Right bit mul ph N m order listed extra σ log claimed
  yes-exactly log claimed = (yes→right laws tells asked σ log claimed, right→yes laws tells asked σ log claimed)

  -- The other verdicts: the first bad entry; else the first row in which the full replay and the claim differ; else all is right but the form.
  pub bad-entry-is-first : (log : List Entry) (claimed : ℕ → R) (i : ℕ) → verdict bit mul alike m order listed extra σ log claimed ≡ bad_entry i → BadAt listed extra 0 i log
  bad-entry-is-first = bad-first laws tells asked σ

  -- At a bad entry the working rows are the starting rows; else they hold the full replay.
  pub bad-entry-keeps : (log : List Entry) (claimed : ℕ → R) (i : ℕ) → verdict bit mul alike m order listed extra σ log claimed ≡ bad_entry i → working mul listed extra σ log ≡ σ
  bad-entry-keeps = bad-keeps laws tells asked σ

  pub differing-row-is-first : (log : List Entry) (claimed : ℕ → R) (k : ℕ) → verdict bit mul alike m order listed extra σ log claimed ≡ differs k
      → All (Good listed extra) log × DiffersAt alike (replay mul σ log) claimed 0 k m
  differing-row-is-first = differs-first laws tells asked σ

  pub only-form-lacks : (log : List Entry) (claimed : ℕ → R) → verdict bit mul alike m order listed extra σ log claimed ≡ not_reduced
      → All (Good listed extra) log × ((k : ℕ) → k < m → Agree bit ph N (replay mul σ log k) (claimed k)) × (ReducedForm bit order listed extra claimed → ⊥)
  only-form-lacks = not-reduced laws tells asked σ

  -- (h) The rule's own log, claimed with the rows it left, gets yes.
  pub own-log-yes : let s = reduce bit mul order listed extra σ in (verdict bit mul alike m order listed extra σ s.log s.rows ≡ accepted)
  own-log-yes =
      let s = reduce bit mul order listed extra σ in
      let e = log-replays bit mul order listed extra σ in
      right→yes laws tells asked σ s.log s.rows (record {
        entries = entries-good bit mul order listed extra σ;
        replayed = λ k hk. record { bits = λ c hc. cc; phase = cc };
        form = (rows-in-form laws asked σ).0;
      })

  -- (i) If the order names every column, two claims accepted for the same start, order and lists agree in every bit, of every row.
  pub bits-unique : NamesAll N order → (log log' : List Entry) (claimed claimed' : ℕ → R)
      → verdict bit mul alike m order listed extra σ log claimed ≡ accepted → verdict bit mul alike m order listed extra σ log' claimed' ≡ accepted
      → (k : ℕ) → k < m → (c : ℕ) → c < N → bit (claimed k) c ≡ bit (claimed' k) c
  bits-unique names log log' claimed claimed' y y' =
      right-bits laws tells asked σ names log log' claimed claimed' (yes→right laws tells asked σ log claimed y) (yes→right laws tells asked σ log' claimed' y')

  -- (j) If moreover no product of listed starting rows, repeats allowed, is the identity with a phase exponent other than 0, they agree in every
  -- phase, of every row.
  pub phases-unique : NamesAll N order → NoPhase bit mul ph N listed σ → ((k : ℕ) → k < m → ph (σ k) < 4) → (log log' : List Entry) (claimed claimed' : ℕ → R)
      → verdict bit mul alike m order listed extra σ log claimed ≡ accepted → verdict bit mul alike m order listed extra σ log' claimed' ≡ accepted
      → (k : ℕ) → k < m → ph (claimed k) ≡ ph (claimed' k)
  phases-unique names free small log log' claimed claimed' y y' k hk =
      right-phases laws tells asked σ names log log' claimed claimed' (yes→right laws tells asked σ log claimed y) (yes→right laws tells asked σ log' claimed' y') free k hk (small k hk)
