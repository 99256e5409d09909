-- Walking back what the calls leave, read off the contracts alone: after a check that replayed the whole log, after a reduction that is done, and after one
-- that refusal 8 cut short, `undo` of the log's entries is done and leaves the starting rows, word for word, phase words and all; and a check that replays the log
-- after an `undo` that is done leaves the rows from before it. Assumes nothing.
use mathlib.Core.Path.{◌≡◌, refl, sym, ap, ap₂, ◌∙◌, subst}
use mathlib.Core.Bool.{Bool, true, false, cond, not, ◌&&◌, ◌||◌}
use mathlib.Core.List.{List, [], ◌∷◌}
use mathlib.Core.Option.{Option, none, some}
use Prim.Native.Nat.{ℕ, zero, suc, ◌+◌, ◌*◌, ◌<◌, ◌≤◌}
use native.Mathlib.Omega.{arith}
use lib.ListN.{length, take, length-take}
use lib.Seq.{length-take-le}
use Rattle.pauli.specs.Row.{Row, mul_row, bit_row}
use Rattle.pauli.proofs.Bools.{not_so}
use Rattle.encoding.specs.Limits.{max_rows, words_of}
use Rattle.encoding.specs.Words.{odd}
use Rattle.encoding.specs.Set.{Mem, count, rows_of, lay, Sound}
use Rattle.std.specs.Prelude.{Ok, Err}
use Rattle.encoding.specs.Refusals.{set_lines, answer_or, left_or}
use Rattle.encoding.specs.Refusals as refusals
use Rattle.encoding.proofs.Faults.{or_else}
use Rattle.encoding.proofs.Memory.{Proper, count-lay, read-lay, lay-back, valid-of, valid-lay}
use Rattle.encoding.proofs.Sets.{sound-of, set-passes, lay-same}
use Rattle.encoding.proofs.WordLaws.{Fit}
use Rattle.reduction.specs.Lists.{All, Distinct, distinct, has}
use Rattle.reduction.specs.Rule.{Entry, mul_at, reduce}
use Rattle.reduction.specs.Replay.{replay}
use Rattle.reduction.specs.Log.{pairs, capacity}
use Rattle.reduction.specs.Checker.{first_bad, verdict, verdict_by, working, working_by}
use Rattle.reduction.specs.Checker as checker
use Rattle.reduction.specs.Demand.{Asked}
use Rattle.reduction.proofs.Log.{pairs-units, cut-logged, length_pairs}
use Rattle.reduction.proofs.Lists.{all-mono, has→in, in_left, in_right}
use Rattle.reduction.proofs.Entries.{bad-none, none-bad}
use Rattle.reduction.proofs.Theorems.{log-replays, entries-good, cut-entries-good}
use Rattle.encoding.specs.Ranks.{by_rank}
use Rattle.terms.specs.Refused.{list_lines, reduce_lines, reduce_fault}
use Rattle.terms.specs.Calls.{Reduces, ReducesAll, up_to, Done, LogFull}
use Rattle.terms.proofs.Finished.{proper-set, proper-replay, none-refused, finished, full-when, full-leaves}
use Rattle.encoding.proofs.Ranks.{rank-append}
use Rattle.terms.proofs.Scans.{asked_of}
use Rattle.terms.proofs.Whole.{whole_is}
use Rattle.replay.specs.Check.{Task, Claim, check_fault, odd_log, given, given_or, verdict_on, working_for, CheckAnswer, Checked}
use Rattle.replay.specs.Undo.{Undone, undo, undo_fault, undone_or, back_by, back_for, Undoes}
use Rattle.replay.specs.Undo as undone
use Rattle.replay.specs.declared.Verdict.TheVariants.{BadEntry, Differs, NotReduced, Yes}
use Rattle.replay.proofs.Judging.{none-large}
use Rattle.replay.proofs.OwnLog.{log-passes}
use Rattle.replay.proofs.Faults.{check-none}
use Rattle.replay.proofs.Back.{Apart, apart, proper-undo, undo-replay, replay-undo}

-- ---- rows that agree below m

undo-same : (n m : ℕ) (es : List Entry) (σ τ : ℕ → Row) → All (Apart m) es → ((k : ℕ) → k < m → σ k ≡ τ k) → (k : ℕ) → k < m → undo n σ es k ≡ undo n τ es k
unfolding undo mul_at
undo-same n m [] σ τ a h k l = h k l
undo-same n m (e ∷ es) σ τ a h k l =
    let f = undo-same n m es σ τ a.1 h in
    simp (f e.target a.0.target-in, f e.source a.0.source_in, f k l)

replay-same : (n m : ℕ) (es : List Entry) (σ τ : ℕ → Row) → All (Apart m) es → ((k : ℕ) → k < m → σ k ≡ τ k) → (k : ℕ) → k < m → replay (mul_row n) σ es k ≡ replay (mul_row n) τ es k
unfolding replay mul_at
replay-same n m [] σ τ a h k l = h k l
replay-same n m (e ∷ es) σ τ a h k l =
    replay-same n m es (mul_at (mul_row n) σ e.target e.source) (mul_at (mul_row n) τ e.target e.source) a.1
    (λ j i. simp (h e.target a.0.target-in, h e.source a.0.source_in, h j i)) k l

-- ---- memory that rows were laid in

module _ {n : ℕ} {M : Mem} (s : Sound n M) {τ : ℕ → Row} (P : Proper n (count M) τ) {M' : Mem} (e : M' ≡ lay n (count M) τ) where
  many : count M' ≡ count M
  many = ap count e ∙ count-lay n (words_of n) (count M) τ s.valid.wide

  reads : (k : ℕ) → k < count M → rows_of n M' k ≡ τ k
  reads k h = ap (λ N. rows_of n N k) e ∙ read-lay n (words_of n) (count M) τ s.valid.wide k h (P.long k h) (P.small k h)

  laid-sound : Sound n M'
  laid-sound =
      subst (Sound n) (sym e)
      (record { valid = valid-lay n (words_of n) (count M) τ s.valid.wide P; few-qubits = s.few-qubits; few-rows = subst (λ k. k ≤ max_rows) (sym (count-lay n (words_of n) (count M) τ s.valid.wide)) s.few-rows })

-- ---- no refusal: the lists passed, the log has no odd length

once : (xs : List ℕ) → Distinct xs → distinct xs ≡ true
unfolding distinct
once [] d = refl
once (x ∷ xs) d = ap₂ (λ a b. a && b) (ap not (not_so (has x xs) (λ t. d.0 (has→in x xs t)))) (once xs d.1)

lists-pass : {N m : ℕ} (n : ℕ) {order listed extra : List ℕ} → Asked N m order listed extra → by_rank (list_lines n m [] listed extra) ≡ 0
unfolding by_rank refusals.some distinct
lists-pass {N} {m} n {order} {listed} {extra} A =
    ap₂ (λ p q. cond p 6 (cond (not q) 7 0))
    (ap₂ (λ a b. a || b) (none-large m listed (λ k i. A.rows_in k (in_left k listed extra i))) (none-large m extra (λ k i. A.rows_in k (in_right k listed extra i))))
    (once listed A.once)

pub undo-passes : {n N : ℕ} {M : Mem} {order listed extra : List ℕ} → Sound n M → Asked N (count M) order listed extra → (log : List ℕ) → odd (length log) ≡ false → undo_fault n M listed extra log ≡ 0
unfolding by_rank
undo-passes {n} {N} {M} {order} {listed} {extra} s A log even =
    rank-append (reduce_lines n M [] listed extra) (odd_log (length log) ∷ []) refl
    ∙ ap₂ or_else (rank-append (set_lines n M) (list_lines n (count M) [] listed extra) refl ∙ ap₂ or_else (set-passes n M s) (lists-pass n A)) (ap (λ b. cond b 9 0) even)

-- ---- a log whose entries all pass, from rows that refusals 1 to 7 passed

module _ {n N : ℕ} {M : Mem} {order listed extra : List ℕ} (s : Sound n M) (A : Asked N (count M) order listed extra)
    (log : List ℕ) (even : odd (length log) ≡ false) (good : first_bad listed extra 0 (pairs log) ≡ none) where
  σ : ℕ → Row
  σ = rows_of n M

  all : All (Apart (count M)) (pairs log)
  all = apart A (pairs log) (bad-none listed extra 0 (pairs log) good)

  -- undo after replay
  pub back_from : {M' M'' : Mem} {r : Undone} → M' ≡ lay n (count M) (replay (mul_row n) (rows_of n M) (pairs log)) → Undoes n listed extra log M' M'' r → (r ≡ undone.Done) × (M'' ≡ M)
  unfolding back_by
  back_from {M'} {M''} {r} e u =
      let m = count M in
      let es = pairs log in
      let P = proper-replay es (rows_of n M) (all-mono (λ e h. (h.target-in, h.source_in)) es all) (proper-set s) in
      let z = undo-passes (laid-sound s P e) (subst (λ k. Asked N k order listed extra) (sym (many s P e)) A) log even in (
        u.answer ∙ ap₂ undone_or z good,
        u.rows ∙ ap (λ k. left_or k M' (back_for n listed extra log M')) z
            ∙ ap₂ (λ k o. lay n k (back_by n o (rows_of n M') es)) (many s P e) good
            ∙ lay-same n m (undo n (rows_of n M') es) (rows_of n M)
            (λ k l. undo-same n m es (rows_of n M') (replay (mul_row n) (rows_of n M) es) all (reads s P e) k l ∙ ap (λ (τ : ℕ → Row). τ k) (undo-replay es (rows_of n M) all (proper-set s)))
            ∙ lay-back n (words_of n) s.valid,
      )

  -- replay after undo
  pub forth-from : {M'' : Mem} {r : Undone} → Undoes n listed extra log M M'' r → (r ≡ undone.Done) × (lay n (count M'') (replay (mul_row n) (rows_of n M'') (pairs log)) ≡ M)
  unfolding back_by
  forth-from {M''} {r} u =
      let m = count M in
      let es = pairs log in
      let z = undo-passes s A log even in
      let P = proper-undo es (rows_of n M) all (proper-set s) in
      let e : M'' ≡ lay n m (undo n (rows_of n M) es) = u.rows ∙ ap (λ k. left_or k M (back_for n listed extra log M)) z ∙ ap (λ o. lay n m (back_by n o (rows_of n M) es)) good in (
        u.answer ∙ ap₂ undone_or z good,
        ap (λ k. lay n k (replay (mul_row n) (rows_of n M'') es)) (many s P e)
            ∙ lay-same n m (replay (mul_row n) (rows_of n M'') es) (rows_of n M)
            (λ k l. replay-same n m es (rows_of n M'') (undo n (rows_of n M) es) all (reads s P e) k l ∙ ap (λ (τ : ℕ → Row). τ k) (replay-undo es (rows_of n M) all (proper-set s)))
            ∙ lay-back n (words_of n) s.valid,
      )

-- ---- the checker

-- the answers after which the working rows hold the full replay
abbrev pub Replayed : CheckAnswer → Type 0
Replayed (Ok (BadEntry i)) = ⊥
Replayed (Ok (Differs k)) = Unit {0}
Replayed (Ok NotReduced) = Unit {0}
Replayed (Ok Yes) = Unit {0}
Replayed (Err r) = ⊥

no-bad : (o d : Option ℕ) (b : Bool) → Replayed (Ok (given (verdict_by o d b))) → o ≡ none
unfolding verdict_by
no-bad none d b h = refl
no-bad (some i) d b h = absurd h

not-refused : (f : ℕ) (v : checker.Verdict) → Replayed (given_or f v) → (f ≡ 0) × Replayed (Ok (given v))
unfolding answer_or
not-refused zero v h = (refl, h)
not-refused (suc f) v h = absurd h

module _ {T : Task} {L : Claim} {r : CheckAnswer} {left : Mem} (c : Checked T L r left) (h : Replayed r) where
  none-fits : (check_fault T L ≡ 0) × Replayed (Ok (given (verdict_on T L)))
  none-fits = not-refused (check_fault T L) (verdict_on T L) (subst Replayed c.answer h)

  none-bad-in : first_bad T.listed T.extra 0 (pairs L.log) ≡ none
  unfolding verdict
  none-bad-in = no-bad (first_bad T.listed T.extra 0 (pairs L.log)) _ _ none-fits.1

  pub even-log : odd (length L.log) ≡ false
  even-log = (check-none T L none-fits.0).2

  pub replayed-rows : left ≡ lay T.n (count T.start) (replay (mul_row T.n) (rows_of T.n T.start) (pairs L.log))
  unfolding working working_by
  replayed-rows =
      c.rows ∙ ap (λ f. left_or f T.start (working_for T L)) none-fits.0
      ∙ ap (λ o. lay T.n (count T.start) (working_by (mul_row T.n) o (rows_of T.n T.start) (pairs L.log))) none-bad-in

  -- after a replay by the checker of a log whose entries all pass
  pub check-undone : {M'' : Mem} {u : Undone} → Undoes T.n T.listed T.extra L.log left M'' u → (u ≡ undone.Done) × (M'' ≡ T.start)
  check-undone v =
      let p = (c.passed none-fits.0).of-task in
      back_from p.sound p.asked L.log even-log none-bad-in replayed-rows v

-- after `undo` the checker's replay gives the rows back that `undo` was given
pub undone-checked : {n : ℕ} {M M'' : Mem} {order listed extra log : List ℕ} {C left : Mem} {u : Undone} {r : CheckAnswer} → Sound n M → Undoes n listed extra log M M'' u → u ≡ undone.Done
    → Checked (record { n = n; start = M''; order = order; listed = listed; extra = extra }) (record { log = log; rows = C }) r left → Replayed r → left ≡ M
undone-checked {n} {M} {M''} {order} {listed} {extra} {log} {C} {left} {u} {r} s v d c h =
    let p = (c.passed (none-fits c h).0).of-task in
    let A = p.asked in
    replayed-rows c h ∙ (forth-from s (subst (λ k. Asked (n + n) k order listed extra) same A) log (even-log c h) (none-bad-in c h) v).1
  where
    by-fault : (f : ℕ) (X : Mem) → undone_or f (first_bad listed extra 0 (pairs log)) ≡ undone.Done → f ≡ 0
    by-fault zero X e = refl
    by-fault (suc f) X e = absurd (let z : ◌≡◌ {A = ℕ} 0 1 = cc in omega arith)

    same : count M'' ≡ count M
    same = ap count (v.rows ∙ ap (λ k. left_or k M (back_for n listed extra log M)) (by-fault (undo_fault n M listed extra log) M (sym v.answer ∙ d))) ∙ count-lay n (words_of n) (count M) _ s.valid.wide

-- ---- the reducer

-- what no refusal tells of words that fit 64 bits
reducible : (n : ℕ) (M : Mem) (order listed extra : List ℕ) → Fit M.xs → Fit M.zs → Fit M.es → reduce_fault n M order listed extra ≡ 0 → Sound n M × Asked (n + n) (count M) order listed extra
reducible n M order listed extra x z p e =
    let no = none-refused n M order listed extra e in
    (sound-of n M refl (valid-of n M x z p) no.0, asked_of n (count M) order listed extra no.1)

module _ (n : ℕ) (order listed extra : List ℕ) (M : Mem) (log : List ℕ) {M' : Mem} {log' : List ℕ} (x : Fit M.xs) (z : Fit M.zs) (p : Fit M.es) where
  -- done, with c entries
  pub done-undone : (c t : ℕ) → Reduces n order listed extra M log M' log' (Done c t) → {M'' : Mem} {u : Undone} → Undoes n listed extra (take (2 * c) log') M' M'' u → (u ≡ undone.Done) × (M'' ≡ M)
  done-undone c t L v =
      let F = finished n order listed extra M log c t L in
      let es = (reduce (bit_row n) (mul_row n) order listed extra (rows_of n M)).log in
      let two : 2 * c ≡ c + c = omega arith in
      let cut : pairs (take (2 * c) log') ≡ es = ap (λ j. pairs (take j log')) two ∙ F.cut-log in
      let long : length (take (2 * c) log') ≡ 2 * c = omega (arith, length-take (2 * c) log', length_pairs (take (2 * c) log'), ap length cut, F.entries) in
      back_from (reducible n M order listed extra x z p F.no-fault).0 F.asked (take (2 * c) log') (log-passes c (length (take (2 * c) log')) long)
      (ap (first_bad listed extra 0) cut ∙ none-bad listed extra 0 es (entries-good (bit_row n) (mul_row n) order listed extra (rows_of n M)))
      (F.laid_out ∙ ap (lay n (count M)) (sym (log-replays (bit_row n) (mul_row n) order listed extra (rows_of n M)) ∙ ap (replay (mul_row n) (rows_of n M)) (sym cut))) v

  -- "A log cut short by refusal 8 can be walked back from the rows it left."
  pub full-undone : Reduces n order listed extra M log M' log' (LogFull (capacity log)) → {M'' : Mem} {u : Undone} → Undoes n listed extra (take (2 * capacity log) log') M' M'' u → (u ≡ undone.Done) × (M'' ≡ M)
  full-undone L v =
      let c = capacity log in
      let whole = (reduce (bit_row n) (mul_row n) order listed extra (rows_of n M)).log in
      let es = take c whole in
      let w = (full-when n order listed extra M log L).0 refl in
      let f = full-leaves n order listed extra M log L refl in
      let k : length es ≡ c = length-take-le c whole (omega (arith, w.1)) in
      let two : 2 * c ≡ length es + length es = omega arith in
      let cut : pairs (take (2 * c) log') ≡ es = ap₂ (λ j l. pairs (take j l)) two f.1 ∙ ap pairs (cut-logged es log) ∙ pairs-units es in
      let long : length (take (2 * c) log') ≡ 2 * c = omega (arith, length-take (2 * c) log', length_pairs (take (2 * c) log'), ap length cut, k) in
      let q = reducible n M order listed extra x z p w.0 in
      back_from q.0 q.1 (take (2 * c) log') (log-passes c (length (take (2 * c) log')) long)
      (ap (first_bad listed extra 0) cut ∙ none-bad listed extra 0 es (cut-entries-good (bit_row n) (mul_row n) order listed extra (rows_of n M) c))
      (f.0 ∙ ap (λ es. lay n (count M) (replay (mul_row n) (rows_of n M) es)) (sym cut)) v

-- the same for `canonicalize_all`
module _ (n : ℕ) (M : Mem) (log : List ℕ) {M' : Mem} {log' : List ℕ} (x : Fit M.xs) (z : Fit M.zs) (p : Fit M.es) where
  pub done-undone-all : (c t : ℕ) → ReducesAll n M log M' log' (Done c t) → {M'' : Mem} {u : Undone} → Undoes n (up_to (count M)) [] (take (2 * c) log') M' M'' u → (u ≡ undone.Done) × (M'' ≡ M)
  done-undone-all c t L v = done-undone n (up_to (n + n)) (up_to (count M)) [] M log x z p c t (whole_is n M log M' log' (Done c t) L) v

  pub full-undone-all : ReducesAll n M log M' log' (LogFull (capacity log)) → {M'' : Mem} {u : Undone} → Undoes n (up_to (count M)) [] (take (2 * capacity log) log') M' M'' u → (u ≡ undone.Done) × (M'' ≡ M)
  full-undone-all L v = full-undone n (up_to (n + n)) (up_to (count M)) [] M log x z p (whole_is n M log M' log' (LogFull (capacity log)) L) v

-- ---- the contract leaves no choice

pub undo-one : {n : ℕ} {listed extra log : List ℕ} {M M₁ M₂ : Mem} {a b : Undone} → Undoes n listed extra log M M₁ a → Undoes n listed extra log M M₂ b → (a ≡ b) × (M₁ ≡ M₂)
undo-one c d = (c.answer ∙ sym d.answer, c.rows ∙ sym d.rows)
