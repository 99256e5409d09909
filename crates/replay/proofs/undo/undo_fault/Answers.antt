-- The refusal of the set and the lists, or else that of the log (`undo-in-turn`).
use Rattle.std.proofs.Common.{rules, ◌≡◌, [], ◌∷◌, Err, ap, ◌∙◌, length}
use Rattle.encoding.specs.Set.{set_of}
use Rattle.encoding.specs.Refusals.{done_or}
use Rattle.encoding.specs.Ranks.{by_rank}
use Rattle.encoding.proofs.Faults.{first_by, next_by}
use Rattle.terms.specs.Refused.{reduce_fault}
use Rattle.replay.specs.Check.{odd_log}
use Rattle.replay.proofs.Walking.{undo-in-turn}
use Rattle.replay.proofs.undo.undo_fault.Goals as goal

pub returns-in_err-reduce_fault-clause-value : goal.returns-in_err-reduce_fault-clause-value
returns-in_err-reduce_fault-clause-value c =
    let a = c.args in
    let s = a.set.now in
    let M = set_of s in
    let h : c.from_residual.result ≡ Err c.in_err-reduce_fault.field-0.0 = search rules in
    h ∙ first_by (reduce_fault s.n M [] a.lists.now.listed.now a.lists.now.extra.now) (by_rank (odd_log (length a.log.now) ∷ [])) tt c.reduce_fault.ensures.value c.in_err-reduce_fault.was tt
    ∙ ap done_or (undo-in-turn s.n a.lists.now.listed.now a.lists.now.extra.now a.log.now M)

pub returns-clause-value : goal.returns-clause-value
returns-clause-value c =
    let a = c.args in
    let s = a.set.now in
    let M = set_of s in
    next_by (reduce_fault s.n M [] a.lists.now.listed.now a.lists.now.extra.now) (by_rank (odd_log (length a.log.now) ∷ [])) tt c.reduce_fault.ensures.value c.in_ok-reduce_fault.was tt c.log_fault.ensures
    ∙ ap done_or (undo-in-turn s.n a.lists.now.listed.now a.lists.now.extra.now a.log.now M)
