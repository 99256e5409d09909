-- Demand 3, of the two calls' contracts: what `canonicalize` leaves when it is done, handed to the checker from the same start with the log cut to its
-- entry count, gets yes. And after any yes the working rows are, word for word, phase words and all, the claimed ones. Assumes nothing.
use mathlib.Core.Path.{◌≡◌, refl, sym, ap, ap₂, ◌∙◌, subst}
use mathlib.Core.Bool.{Bool, false, cond}
use mathlib.Core.Option.{some}
use mathlib.Core.List.{List, []}
use Prim.Native.Nat.{ℕ, zero, suc, ◌+◌, ◌*◌, ◌%◌, ◌≤◌, ◌<◌}
use native.Mathlib.Omega.{arith}
use borrow.Author.Tests.{ne_eqb}
use lib.ListN.{length, take, length-take}
use Rattle.pauli.specs.Row.{Row, mul_row, bit_row, same_row}
use Rattle.encoding.specs.Limits.{words_of}
use Rattle.encoding.specs.Words.{odd}
use Rattle.encoding.specs.Set.{Mem, count, rows_held, rows_of, lay, Valid}
use Rattle.encoding.specs.Refusals.{least, set_lines, answer_or, left_or}
use Rattle.encoding.proofs.Faults.{or_else}
use Rattle.encoding.proofs.Memory.{Proper, mem-eq, within-limits, count-lay, read-lay, valid-lay}
use Rattle.encoding.proofs.Sets.{same-words, same-phases, read-proper, set-passes}
use Rattle.reduction.specs.Rule.{Run, reduce}
use Rattle.reduction.specs.Replay.{replay}
use Rattle.reduction.specs.Log.{pairs, units}
use Rattle.reduction.specs.Form.{reduced}
use Rattle.reduction.specs.Checker.{first_bad, first_diff, accepted, verdict_by, verdict, working, working_by}
use Rattle.reduction.proofs.Log.{length_pairs}
use Rattle.reduction.proofs.Entries.{none-bad}
use Rattle.reduction.proofs.Theorems as theorems
use Rattle.reduction.proofs.PauliRows.{rows-laws, rows_tell}
use Rattle.encoding.specs.Ranks.{by_rank}
use Rattle.terms.specs.Calls.{up_to, Reduces, ReducesAll, Done}
use Rattle.replay.proofs.Faults.{check-in-turn}
use Rattle.terms.proofs.Finished.{Finished, finished, none-refused, proper-replay, proper-set}
use Rattle.terms.proofs.Whole.{whole_is, whole-names}
use Rattle.replay.specs.Check.{Task, task, Claim, claim, check_fault, given_or, verdict_on, working_for, CheckAnswer, Yes, Checked}
use Rattle.replay.specs.Demand.{EveryColumn}
use Rattle.replay.proofs.Judging.{good-inside}
use Rattle.replay.proofs.Demand.{yes-exactly}

-- ---- after a yes the working rows are the claimed ones

pub yes-left : {T : Task} {L : Claim} {left : Mem} → Checked T L Yes left → left ≡ L.rows
unfolding working working_by
yes-left {T} {L} {left} c =
    let n = T.n in
    let w = words_of n in
    let m = count T.start in
    let C = L.rows in
    let σ = rows_of n T.start in
    let es = pairs L.log in
    let τ = replay (mul_row n) σ es in
    let y = (yes-exactly c).0 refl in
    let s = c.passed y.0 in
    let R = y.1 in
    let p : Proper n m τ = proper-replay es σ (good-inside s.of-task.asked es R.entries) (proper-set s.of-task.sound) in
    let W = lay n m τ in
    let v : Valid n w W = valid-lay n w m τ s.of-task.sound.valid.wide p in
    let many : count W ≡ m = count-lay n w m τ s.of-task.sound.valid.wide in
    let as_many : count W ≡ count C = many ∙ sym s.of-claim.as_many in
    let at : (k : ℕ) → k < count W → rows_held n w W k ≡ τ k = λ k h. let i : k < m = omega arith in read-lay n w m τ s.of-task.sound.valid.wide k i (p.long k i) (p.small k i) in
    let u = same-words n w v s.of-claim.claimed-set as_many (λ k h j g. ap (λ r. bit_row n r j) (at k h) ∙ (R.replayed k (omega arith)).bits j g) in
    c.rows
    ∙ ap (λ f. left_or f T.start (working_for T L)) y.0
    ∙ ap (λ o. lay n m (working_by (mul_row n) o σ es)) (none-bad T.listed T.extra 0 es R.entries)
    ∙ mem-eq as_many u.0 u.1 (same-phases n w v s.of-claim.claimed-set as_many (λ k h. ap (λ r. r.p) (at k h) ∙ (R.replayed k (omega arith)).phase))

-- ---- our own finished logs

pub log-passes : (k units : ℕ) → units ≡ 2 * k → odd units ≡ false
log-passes k units e = ne_eqb (units % 2) 1 (λ o. omega arith)

-- the first differing row goes by the claimed rows below m
claimed-same : {R : Type 0} (alike : R → R → Bool) (σ τ τ' : ℕ → R) (m i : ℕ) → ((k : ℕ) → k < i + m → τ k ≡ τ' k) → first_diff alike σ τ i m ≡ first_diff alike σ τ' i m
unfolding first_diff
claimed-same alike σ τ τ' zero i h = refl
claimed-same alike σ τ τ' (suc m) i h =
    ap₂ (λ r o. cond (alike (σ i) r) o (some i)) (h i (omega arith)) (claimed-same alike σ τ τ' m (suc i) (λ k l. h k (omega arith)))

module _ (T : Task) {M' : Mem} {log' : List ℕ} {k t : ℕ} (F : Finished T.n T.order T.listed T.extra T.start M' log' k t) where
  -- the rule's run
  run : Run Row
  run = reduce (bit_row T.n) (mul_row T.n) T.order T.listed T.extra (rows_of T.n T.start)

  wide : T.n ≤ words_of T.n * 64
  wide = omega arith

  start-passed : by_rank (set_lines T.n T.start) ≡ 0
  start-passed = (none-refused T.n T.start T.order T.listed T.extra F.no-fault).0

  proper : Proper T.n (count T.start) run.rows
  unfolding run
  proper =
      let b = bit_row T.n in
      let μ = mul_row T.n in
      let σ = rows_of T.n T.start in
      subst (Proper T.n (count T.start)) (theorems.log-replays b μ T.order T.listed T.extra σ)
      (proper-replay run.log σ (good-inside F.asked run.log (theorems.entries-good b μ T.order T.listed T.extra σ)) (read-proper T.n T.start start-passed))

  -- the log cut to its entry count
  cut : pairs (take (2 * k) log') ≡ run.log
  unfolding run
  cut = ap (λ j. pairs (take j log')) (let e : 2 * k ≡ k + k = omega arith in e) ∙ F.cut-log

  whole-entries : length (take (2 * k) log') ≡ 2 * k
  unfolding run
  whole-entries = omega (arith, length-take (2 * k) log', length_pairs (take (2 * k) log'), ap length cut, F.entries)

  pub own-passes : check_fault T (claim (take (2 * k) log') M') ≡ 0
  unfolding run by_rank least
  own-passes =
      let n = T.n in
      let m = count T.start in
      let l = within-limits n T.start start-passed in
      let v : Valid n (words_of n) M' = subst (Valid n (words_of n)) (sym F.laid_out) (valid-lay n (words_of n) m run.rows wide proper) in
      check-in-turn T (claim (take (2 * k) log') M')
      ∙ ap₂ or_else
      (ap₂ least F.no-fault (set-passes n M' (record { valid = v; few-qubits = l.0; few-rows = omega (arith, F.as_many) })))
      (ap (λ o. cond o 9 0) (log-passes k (length (take (2 * k) log')) whole-entries))

  pub own-accepted : verdict_on T (claim (take (2 * k) log') M') ≡ accepted
  unfolding run verdict
  own-accepted =
      let n = T.n in
      let m = count T.start in
      let σ = rows_of n T.start in
      let at : (j : ℕ) → j < m → rows_of n M' j ≡ run.rows j
      = λ j h. ap (λ N. rows_of n N j) F.laid_out ∙ read-lay n (words_of n) m run.rows wide j h (proper.long j h) (proper.small j h) in
      ap (λ es. verdict (bit_row n) (mul_row n) (same_row n) m T.order T.listed T.extra σ es (rows_of n M')) cut
      ∙ ap (λ d. verdict_by (first_bad T.listed T.extra 0 run.log) d (reduced (bit_row n) T.order T.listed T.extra (replay (mul_row n) σ run.log)))
      (claimed-same (same_row n) (replay (mul_row n) σ run.log) (rows_of n M') run.rows m 0 (λ j h. at j (omega arith)))
      ∙ theorems.own-log-yes (rows-laws n) (rows_tell n) F.asked σ

-- (2) Our own finished logs, claimed with the rows they left, get yes: M' and log' are what `canonicalize` leaves when it answers that it is done with k
-- entries; the checker starts where it started, and its log is the first 2 × k units of log'. The working rows end as those that `canonicalize` left.
pub own-log-yes : {T : Task} {log log' : List ℕ} {M' : Mem} {k t : ℕ} → Reduces T.n T.order T.listed T.extra T.start log M' log' (Done k t)
    → {r : CheckAnswer} {left : Mem} → Checked T (claim (take (2 * k) log') M') r left → (r ≡ Yes) × (left ≡ M')
unfolding answer_or
own-log-yes {T} {log} {log'} {M'} {k} {t} c {r} {left} d =
    let F = finished T.n T.order T.listed T.extra T.start log k t c in
    let yes : r ≡ Yes = d.answer ∙ ap₂ given_or (own-passes T F) (own-accepted T F) in
    (yes, yes-left (subst (λ v. Checked T (claim (take (2 * k) log') M') v left) yes d))

-- ---- the whole set: all columns, all rows listed, no extra rows

abbrev pub whole : ℕ → Mem → Task
whole n M = task n M (up_to (n + n)) (up_to (count M)) []

-- (2) for `canonicalize_all`
pub own-log-yes-all : {n : ℕ} {M : Mem} {log log' : List ℕ} {M' : Mem} {k t : ℕ} → ReducesAll n M log M' log' (Done k t)
    → {r : CheckAnswer} {left : Mem} → Checked (whole n M) (claim (take (2 * k) log') M') r left → (r ≡ Yes) × (left ≡ M')
own-log-yes-all {n} {M} {log} {log'} {M'} {k} {t} c d = own-log-yes {T = whole n M} (whole_is n M log M' log' (Done k t) c) d

-- (3) applies to it: "the order names every column"
pub whole-names-all : (n : ℕ) (M : Mem) → EveryColumn (whole n M)
whole-names-all n M = whole-names n
