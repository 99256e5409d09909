-- Demand 3, of the checker's contract `Checked`: when it says yes, and what two claims that it says yes to have in common. What the other answers say, and
-- that the contract leaves no choice. Assumes nothing.
use mathlib.Core.Path.{◌≡◌, refl, sym, ap, ◌∙◌, subst}
use mathlib.Core.Logic.{◌↔◌, ◌⊎◌, ⊎_elim}
use mathlib.Core.Bool.{false, cond}
use mathlib.Core.List.{List, [], ◌∷◌, ◌++◌}
use Prim.Native.Nat.{ℕ, suc, ◌+◌, ◌≤◌, ◌<◌}
use native.Mathlib.Omega.{arith}
use borrow.Author.Tests.{ne_eqb}
use lib.Dec.{eqb}
use lib.ListN.{length}
use Rattle.pauli.specs.Row.{Row, mul_row, bit_row, same_row}
use Rattle.encoding.specs.Limits.{words_of}
use Rattle.encoding.specs.Set.{Mem, count, rows_held, rows_of, lay}
use Rattle.std.specs.Prelude.{Ok}
use Rattle.encoding.specs.Refusals.{answer_or, left_or}
use Rattle.encoding.proofs.Faults.{value-is}
use Rattle.encoding.proofs.Memory.{lay-back}
use Rattle.encoding.proofs.Sets.{same-words, same-phases}
use Rattle.encoding.proofs.Exponents.{exponent_small}
use Rattle.reduction.specs.Lists.{In, Distinct, All}
use Rattle.reduction.specs.Rule.{Entry, mul_at}
use Rattle.reduction.specs.Log.{pairs}
use Rattle.reduction.specs.Replay.{replay}
use Rattle.reduction.specs.Form.{ReducedForm}
use Rattle.reduction.specs.Checker.{bad_entry, differs, not_reduced, accepted}
use Rattle.reduction.specs.Checker as checker
use Rattle.reduction.specs.Demand.{Good, Agree}
use Rattle.reduction.proofs.Theorems as theorems
use Rattle.reduction.proofs.Lists.{in_left}
use Rattle.reduction.proofs.Entries.{BadAt}
use Rattle.reduction.proofs.Checker.{DiffersAt}
use Rattle.reduction.proofs.PauliRows.{rows-laws, rows_tell}
use Rattle.encoding.specs.Ranks.{TableLine, by_rank}
use Rattle.encoding.proofs.Ranks.{Given, answer-refused}
use Rattle.terms.proofs.Whole.{every-once}
use Rattle.replay.specs.Check.{Task, Claim, Passed, Checked, check_fault, verdict_on, working_for, given, given_or, CheckAnswer, BadEntry, Differs, NotReduced, Yes, Refused}
use Rattle.replay.specs.Demand.{RightClaim, EveryColumn, NoPhaseAtStart}
use Rattle.replay.specs.declared.Verdict.{Verdict}
use Rattle.replay.specs.declared.Verdict.TheVariants as said

-- ---- the answer tells the verdict

back : Verdict → checker.Verdict
back (said.BadEntry i) = bad_entry i
back (said.Differs k) = differs k
back said.NotReduced = not_reduced
back said.Yes = accepted

back-given : (v : checker.Verdict) → back (given v) ≡ v
unfolding back
back-given (bad_entry i) = refl
back-given (differs k) = refl
back-given not_reduced = refl
back-given accepted = refl

-- an answer that is a verdict's name: nothing is refused, and that is the verdict
told : (k : ℕ) {v : checker.Verdict} {r : CheckAnswer} → r ≡ given_or k v → (v' : checker.Verdict) → r ≡ Ok (given v') → (k ≡ 0) × (v ≡ v')
told k {v} {r} e v' f = let p = value-is k (given v) (given v') (sym e ∙ f) in (p.0, sym (back-given v) ∙ ap back p.1 ∙ back-given v')

-- the phases of a row set
phase-small : (n w : ℕ) (M : Mem) (k : ℕ) → (rows_held n w M k).p < 4
unfolding rows_held
phase-small n w M k = exponent_small M.es k

-- entries change their targets alone
replay-others : {R : Type 0} (mul : R → R → R) (σ : ℕ → R) (listed extra : List ℕ) (k : ℕ) → (In k (listed ++ extra) → ⊥)
    → (es : List Entry) → All (Good listed extra) es → replay mul σ es k ≡ σ k
unfolding replay mul_at
replay-others mul σ listed extra k out [] g = refl
replay-others mul σ listed extra k out (e ∷ es) g =
    let off : eqb k e.target ≡ false = ne_eqb k e.target (λ q. out (subst (λ j. In j (listed ++ extra)) (sym q) g.0.target-in)) in
    replay-others mul (mul_at mul σ e.target e.source) listed extra k out es g.1 ∙ ap (λ b. cond b (mul (σ e.target) (σ e.source)) (σ k)) off

-- ---- one check

module _ {T : Task} {L : Claim} {r : CheckAnswer} {left : Mem} (c : Checked T L r left) where
  on-verdict : (v : checker.Verdict) → r ≡ Ok (given v) → (check_fault T L ≡ 0) × (verdict_on T L ≡ v)
  on-verdict v e = told (check_fault T L) c.answer v e

  answered : {v : checker.Verdict} → verdict_on T L ≡ v → given_or 0 (verdict_on T L) ≡ Ok (given v)
  unfolding answer_or
  answered e = ap (λ v. Ok (given v)) e

  right-iff : check_fault T L ≡ 0 → (verdict_on T L ≡ accepted) ↔ RightClaim T L
  right-iff z = theorems.yes-exactly (rows-laws T.n) (rows_tell T.n) (c.passed z).of-task.asked (rows_of T.n T.start) (pairs L.log) (rows_of T.n L.rows)

  -- (1) Yes exactly when nothing is refused and the claim is right: each entry multiplies a listed or extra row by a different, listed row, the full
  -- replay gives the claimed bits and phases, and these stand in document 01's reduced form.
  pub yes-exactly : (r ≡ Yes) ↔ ((check_fault T L ≡ 0) × RightClaim T L)
  yes-exactly = (
    λ e. let y = on-verdict accepted e in (y.0, (right-iff y.0).0 y.1),
    λ h. c.answer ∙ ap (λ k. given_or k (verdict_on T L)) h.0 ∙ answered ((right-iff h.0).1 h.1),
  )

  -- What is accepted has an order without repeats, since nothing was refused;
  pub yes-once : r ≡ Yes → Distinct T.order
  yes-once e = (c.passed (yes-exactly.0 e).0).of-task.columns-once

  -- where it names every column, it is a list of all 2n of them.
  pub yes-every : r ≡ Yes → EveryColumn T → length T.order ≡ T.n + T.n
  yes-every e every = every-once (T.n + T.n) T.order every (yes-once e) (c.passed (yes-exactly.0 e).0).of-task.asked.columns-in

  -- The other verdicts: the first bad entry; else the first row in which the full replay and the claim differ; else all is right but the form.
  pub bad-entry-is-first : (i : ℕ) → r ≡ BadEntry i → BadAt T.listed T.extra 0 i (pairs L.log)
  bad-entry-is-first i e =
      let y = on-verdict (bad_entry i) e in
      theorems.bad-entry-is-first (rows-laws T.n) (rows_tell T.n) (c.passed y.0).of-task.asked (rows_of T.n T.start) (pairs L.log) (rows_of T.n L.rows) i y.1

  -- At a bad entry the working rows are unchanged.
  pub bad-left : (i : ℕ) → r ≡ BadEntry i → left ≡ T.start
  bad-left i e =
      let y = on-verdict (bad_entry i) e in
      c.rows ∙ ap (λ k. left_or k T.start (working_for T L)) y.0
      ∙ ap (lay T.n (count T.start))
      (theorems.bad-entry-keeps (rows-laws T.n) (rows_tell T.n) (c.passed y.0).of-task.asked (rows_of T.n T.start) (pairs L.log) (rows_of T.n L.rows) i y.1)
      ∙ lay-back T.n (words_of T.n) (c.passed y.0).of-task.sound.valid

  pub differing-row-is-first : (k : ℕ) → r ≡ Differs k
      → All (Good T.listed T.extra) (pairs L.log)
      × DiffersAt (same_row T.n) (replay (mul_row T.n) (rows_of T.n T.start) (pairs L.log)) (rows_of T.n L.rows) 0 k (count T.start)
  differing-row-is-first k e =
      let y = on-verdict (differs k) e in
      theorems.differing-row-is-first (rows-laws T.n) (rows_tell T.n) (c.passed y.0).of-task.asked (rows_of T.n T.start) (pairs L.log) (rows_of T.n L.rows) k y.1

  pub only-form-lacks : r ≡ NotReduced
      → All (Good T.listed T.extra) (pairs L.log)
      × ((k : ℕ) → k < count T.start → Agree (bit_row T.n) (λ (r : Row). r.p) (T.n + T.n) (replay (mul_row T.n) (rows_of T.n T.start) (pairs L.log) k) (rows_of T.n L.rows k))
      × (ReducedForm (bit_row T.n) T.order T.listed T.extra (rows_of T.n L.rows) → ⊥)
  only-form-lacks e =
      let y = on-verdict not_reduced e in
      theorems.only-form-lacks (rows-laws T.n) (rows_tell T.n) (c.passed y.0).of-task.asked (rows_of T.n T.start) (pairs L.log) (rows_of T.n L.rows) y.1

  -- Numbers of m or more are bad entries.
  pub large-number-is-bad : check_fault T L ≡ 0 → (e : Entry) → (count T.start ≤ e.target) ⊎ (count T.start ≤ e.source) → Good T.listed T.extra e → ⊥
  large-number-is-bad z e h g =
      let rows_in = (c.passed z).of-task.asked.rows_in in
      ⊎_elim (λ l. omega (arith, rows_in e.target g.target-in)) (λ l. omega (arith, rows_in e.source (in_left e.source T.listed T.extra g.source_in))) h

  -- After a yes, a row in neither list is claimed as it was at the start.
  pub unlisted-rows-kept : r ≡ Yes → (k : ℕ) → k < count T.start → (In k (T.listed ++ T.extra) → ⊥)
      → Agree (bit_row T.n) (λ (r : Row). r.p) (T.n + T.n) (rows_of T.n T.start k) (rows_of T.n L.rows k)
  unlisted-rows-kept e k h out =
      let R = (yes-exactly.0 e).1 in
      subst (λ ρ. Agree (bit_row T.n) (λ (r : Row). r.p) (T.n + T.n) ρ (rows_of T.n L.rows k))
      (replay-others (mul_row T.n) (rows_of T.n T.start) T.listed T.extra k out (pairs L.log) R.entries) (R.replayed k h)

-- ---- two checks of the same start, order and lists

module _ {T : Task} {A B : Claim} {left left' : Mem} (c : Checked T A Yes left) (d : Checked T B Yes left') (every : EveryColumn T) where
  a-set : Passed T A.rows
  a-set = c.passed (on-verdict c accepted refl).0

  b-set : Passed T B.rows
  b-set = d.passed (on-verdict d accepted refl).0

  as_many : count A.rows ≡ count B.rows
  as_many = a-set.of-claim.as_many ∙ sym b-set.of-claim.as_many

  -- (3) If the order names every column, two claims accepted for the same start, order and lists agree in every bit, of every row: their X words and
  -- their Z words are the same.
  pub words-unique : (A.rows.xs ≡ B.rows.xs) × (A.rows.zs ≡ B.rows.zs)
  words-unique =
      same-words T.n (words_of T.n) a-set.of-claim.claimed-set b-set.of-claim.claimed-set as_many
      (λ k h. theorems.bits-unique (rows-laws T.n) (rows_tell T.n) a-set.of-task.asked (rows_of T.n T.start) every (pairs A.log) (pairs B.log)
      (rows_of T.n A.rows) (rows_of T.n B.rows) (on-verdict c accepted refl).1 (on-verdict d accepted refl).1 k (omega (arith, a-set.of-claim.as_many)))

  -- (4) If moreover no product of listed starting rows, repeats allowed, is the identity with a phase exponent other than 0, they agree in every phase, of
  -- every row: their phase words are the same, spare bits included.
  pub phases-unique : NoPhaseAtStart T → A.rows.es ≡ B.rows.es
  phases-unique free =
      same-phases T.n (words_of T.n) a-set.of-claim.claimed-set b-set.of-claim.claimed-set as_many
      (λ k h. theorems.phases-unique (rows-laws T.n) (rows_tell T.n) a-set.of-task.asked (rows_of T.n T.start) every free (λ j _. phase-small T.n (words_of T.n) T.start j) (pairs A.log) (pairs B.log)
      (rows_of T.n A.rows) (rows_of T.n B.rows) (on-verdict c accepted refl).1 (on-verdict d accepted refl).1 k (omega (arith, a-set.of-claim.as_many)))

-- ---- refusals: the number k + 1 is given exactly when its line of the table fits and none before it does

pub verdict-refused : (v : checker.Verdict) (ls : List TableLine) (k : ℕ) → (given_or (by_rank ls) v ≡ Refused (suc k)) ↔ Given (suc k) ls
verdict-refused v = answer-refused (given v)

-- ---- the contract leaves no choice: any two outcomes that it allows are the same

pub determined : {T : Task} {L : Claim} {r r' : CheckAnswer} {left left' : Mem} → Checked T L r left → Checked T L r' left' → (r ≡ r') × (left ≡ left')
determined c d = (c.answer ∙ sym d.answer, c.rows ∙ sym d.rows)
