-- A refusal is the call's, and all is as it was (`reduce-refused`); else the worker's part is asked for, and what it leaves is the rule's
-- (`leaves_at`).
use Rattle.std.proofs.Common.{rules, ◌≡◌, sym, subst, ◌∙◌}
use Rattle.encoding.specs.Set.{mem_of}
use Rattle.encoding.proofs.Faults.{refused-by, done_none}
use Rattle.terms.specs.Calls.{ReductionAnswer, RefusedBy, outcome_of, Leaves}
use Rattle.terms.specs.Refused.{reduce_fault}
use Rattle.terms.proofs.Answers.{lists-in, reduce-refused, leaves_at}
use Rattle.terms.proofs.canonicalize.Goals as goal

pub returns-in_err-reduce_fault : goal.returns-in_err-reduce_fault
returns-in_err-reduce_fault c =
    let a = c.args in
    let M = mem_of a.m a.x.now a.z.now a.phases.now in
    let f = c.in_err-reduce_fault.field-0.0 in
    let h : c.from_residual.result ≡ RefusedBy f.0 = search rules in
    let p = refused-by (reduce_fault a.n M a.lists.now.order.now a.lists.now.listed.now a.lists.now.extra.now) tt (sym c.in_err-reduce_fault.was ∙ c.reduce_fault.ensures.value) in
    let R : ReductionAnswer → Type 0 = λ r. Leaves a.n (reduce_fault a.n M a.lists.now.order.now a.lists.now.listed.now a.lists.now.extra.now) (outcome_of a.n a.lists.now.order.now a.lists.now.listed.now a.lists.now.extra.now M a.log.now) M a.log.now M a.log.now r in
    subst R (sym h) (reduce-refused a.n (reduce_fault a.n M a.lists.now.order.now a.lists.now.listed.now a.lists.now.extra.now) f.0 (outcome_of a.n a.lists.now.order.now a.lists.now.listed.now a.lists.now.extra.now M a.log.now) M a.log.now p.0 (λ z. p.1 (sym p.0 ∙ z)))

pub reduced-requires : goal.reduced-requires
reduced-requires c = lists-in c.in_ok-reduce_fault.ensures.passed

pub returns : goal.returns
returns c = leaves_at (sym (done_none _ (sym c.reduce_fault.ensures.value ∙ c.in_ok-reduce_fault.was))) c.reduced.ensures
