-- A refusal is the call's, and all is as it was (`reduce-refused`); else the worker's part is asked for, and what it leaves is the rule's
-- (`leaves_at`).
use Rattle.std.proofs.Common.{rules, ◌≡◌, sym, subst, ◌∙◌}
use Rattle.encoding.specs.Set.{mem_of}
use Rattle.encoding.specs.Refusals.{set_lines}
use Rattle.encoding.specs.Ranks.{by_rank}
use Rattle.encoding.proofs.Faults.{refused-by, done_none}
use Rattle.encoding.proofs.Sets.{sound-when}
use Rattle.terms.specs.Calls.{ReductionAnswer, RefusedBy, whole_outcome, Leaves}
use Rattle.terms.proofs.Answers.{reduce-refused, leaves_at}
use Rattle.terms.proofs.canonicalize_all.Goals as goal

pub returns-in_err-set_fault : goal.returns-in_err-set_fault
returns-in_err-set_fault c =
    let a = c.args in
    let M = mem_of a.m a.x.now a.z.now a.phases.now in
    let f = c.in_err-set_fault.field-0.0 in
    let h : c.from_residual.result ≡ RefusedBy f.0 = search rules in
    let p = refused-by (by_rank (set_lines a.n M)) tt (sym c.in_err-set_fault.was ∙ c.set_fault.ensures.value) in
    let R : ReductionAnswer → Type 0 = λ r. Leaves a.n (by_rank (set_lines a.n M)) (whole_outcome a.n M a.log.now) M a.log.now M a.log.now r in
    subst R (sym h) (reduce-refused a.n (by_rank (set_lines a.n M)) f.0 (whole_outcome a.n M a.log.now) M a.log.now p.0 (λ z. p.1 (sym p.0 ∙ z)))

pub reduced_all-requires : goal.reduced_all-requires
reduced_all-requires c =
    let a = c.args in
    sound-when a.n (mem_of a.m a.x.now a.z.now a.phases.now) c.set_fault.ensures.value c.set_fault.ensures.valid c.in_ok-set_fault.was

pub returns : goal.returns
returns c = leaves_at (sym (done_none _ (sym c.set_fault.ensures.value ∙ c.in_ok-set_fault.was))) c.reduced_all.ensures
