-- The refusals of a check: the first line of its parts by rank, and what nothing refused leaves. Of both parts the smaller number is the earlier
-- (`joined-fault`), and the log's comes behind them (`rank-append`). Assumes nothing.
use mathlib.Core.Path.{◌≡◌, refl, sym, ap, ap₂, ◌∙◌}
use mathlib.Core.Bool.{false, true}
use mathlib.Core.List.{[], ◌∷◌}
use lib.ListN.{length}
use Rattle.std.specs.Prelude.{Result, Ok, Err, IfOk}
use Rattle.encoding.specs.Words.{odd}
use Rattle.encoding.specs.Set.{Mem}
use Rattle.encoding.specs.Refusals.{least, smaller, answer_or, done_or}
use Rattle.encoding.specs.declared.Refusal.{Refusal}
use Rattle.pauli.specs.Lists.{every}
use Rattle.encoding.proofs.Faults.{least-none, or_else, or-none, first_by, next_by, if-ok, smaller-is}
use Rattle.encoding.specs.Ranks.{by_rank, place_in, placed, joined}
use Rattle.terms.specs.Refused.{reduce_fault}
use Rattle.encoding.proofs.Ranks.{none-holds, counted, rank-append, Fitting, joined-fault}
use Rattle.replay.specs.Check.{Task, Claim, task_lines, claim_lines, odd_log, check_fault, Passed}

-- ---- the call

-- what was to be reduced and what is claimed, both by rank
task-claim : (T : Task) (C : Mem) → Fitting (task_lines T) (claim_lines T.n C)
unfolding place_in least every
task-claim T C = refl

both-counted : (T : Task) (C : Mem) → counted (joined (task_lines T) (claim_lines T.n C)) ≡ true
unfolding place_in placed joined
both-counted T C = refl

-- the smaller of their numbers, or else that of the log
pub check-in-turn : (T : Task) (L : Claim) → check_fault T L ≡ or_else (least (by_rank (task_lines T)) (by_rank (claim_lines T.n L.rows))) (by_rank (odd_log (length L.log) ∷ []))
check-in-turn T L =
    rank-append (joined (task_lines T) (claim_lines T.n L.rows)) (odd_log (length L.log) ∷ []) (both-counted T L.rows)
    ∙ ap (λ k. or_else k (by_rank (odd_log (length L.log) ∷ []))) (sym (joined-fault (task_lines T) (claim_lines T.n L.rows) (task-claim T L.rows)))

-- where nothing is refused no part has a number, and the log is one of whole entries
pub check-none : (T : Task) (L : Claim) → check_fault T L ≡ 0 → (by_rank (task_lines T) ≡ 0) × (by_rank (claim_lines T.n L.rows) ≡ 0) × (odd (length L.log) ≡ false)
check-none T L z =
    let a = by_rank (task_lines T) in
    let b = by_rank (claim_lines T.n L.rows) in
    let o = or-none (least a b) (by_rank (odd_log (length L.log) ∷ [])) (sym (check-in-turn T L) ∙ z) in
    let p = least-none a b o.0 in
    (p.0, p.1, none-holds (odd_log (length L.log) ∷ []) refl o.1 0)

-- by the answers of the parts: the smaller refusal, or else that of the log
module _ (T : Task) (L : Claim) {a b s : Result Unit Refusal} (pa : a ≡ done_or (reduce_fault T.n T.start T.order T.listed T.extra)) (pb : b ≡ done_or (by_rank (claim_lines T.n L.rows))) (e : s ≡ smaller a b) where
  parts-number : s ≡ done_or (least (by_rank (task_lines T)) (by_rank (claim_lines T.n L.rows)))
  parts-number = e ∙ ap₂ smaller pa pb ∙ smaller-is (by_rank (task_lines T)) (by_rank (claim_lines T.n L.rows))

  pub parts-refuse : {r : Refusal} → s ≡ Err r → Err r ≡ done_or (check_fault T L)
  parts-refuse h =
      first_by (least (by_rank (task_lines T)) (by_rank (claim_lines T.n L.rows))) (by_rank (odd_log (length L.log) ∷ [])) tt parts-number h tt
      ∙ ap done_or (sym (check-in-turn T L))

  pub log-decides : {u : Unit} {f : Result Unit Refusal} → s ≡ Ok u → f ≡ done_or (by_rank (odd_log (length L.log) ∷ [])) → f ≡ done_or (check_fault T L)
  log-decides h l =
      next_by (least (by_rank (task_lines T)) (by_rank (claim_lines T.n L.rows))) (by_rank (odd_log (length L.log) ∷ [])) tt parts-number h tt l
      ∙ ap done_or (sym (check-in-turn T L))

-- what the answer of the tests tells
pub tells : (T : Task) (L : Claim) {f : Result Unit Refusal} → f ≡ done_or (check_fault T L) → IfOk f (λ _. Passed T L.rows) → check_fault T L ≡ 0 → Passed T L.rows
unfolding answer_or
tells T L by passed z = if-ok (Passed T L.rows) (by ∙ ap done_or z) passed
