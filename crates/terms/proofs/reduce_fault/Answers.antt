-- The set's refusal is the call's; else the lists are looked at (`by_parts`), and what passes both is as the theorems ask (`reduce-told`).
use Rattle.std.proofs.Common.{rules, ◌≡◌, Err, sym, ap, ◌∙◌}
use Rattle.encoding.specs.Set.{set_of}
use Rattle.encoding.specs.Refusals.{done_or, set_lines}
use Rattle.encoding.specs.Ranks.{by_rank}
use Rattle.encoding.proofs.Faults.{first_by, next_by, done_none, ok-when}
use Rattle.encoding.proofs.Sets.{sound-when}
use Rattle.terms.specs.Refused.{list_lines}
use Rattle.terms.proofs.Answers.{by_parts, reduce-told}
use Rattle.terms.proofs.reduce_fault.Goals as goal

pub returns-in_err-set_fault-clause-value : goal.returns-in_err-set_fault-clause-value
returns-in_err-set_fault-clause-value c =
    let a = c.args in
    let s = a.set.now in
    let h : c.from_residual.result ≡ Err c.in_err-set_fault.field-0.0 = search rules in
    h ∙ first_by (by_rank (set_lines s.n (set_of s))) (by_rank (list_lines s.n s.m a.lists.now.order.now a.lists.now.listed.now a.lists.now.extra.now)) tt c.set_fault.ensures.value c.in_err-set_fault.was tt
    ∙ ap done_or (by_parts s.n (set_of s) a.lists.now.order.now a.lists.now.listed.now a.lists.now.extra.now)

pub lists_fault-requires : goal.lists_fault-requires
lists_fault-requires c =
    let s = c.args.set.now in
    let q = sound-when s.n (set_of s) c.set_fault.ensures.value c.set_fault.ensures.valid c.in_ok-set_fault.was in
    (q.few-qubits, q.few-rows)

pub returns : goal.returns
returns c =
    let a = c.args in
    let s = a.set.now in
    let q = sound-when s.n (set_of s) c.set_fault.ensures.value c.set_fault.ensures.valid c.in_ok-set_fault.was in
    record {
      value =
          next_by (by_rank (set_lines s.n (set_of s))) (by_rank (list_lines s.n s.m a.lists.now.order.now a.lists.now.listed.now a.lists.now.extra.now)) tt c.set_fault.ensures.value c.in_ok-set_fault.was tt c.lists_fault.ensures
          ∙ ap done_or (by_parts s.n (set_of s) a.lists.now.order.now a.lists.now.listed.now a.lists.now.extra.now);
      passed = ok-when c.lists_fault.result (λ u e. reduce-told s.n (set_of s) a.lists.now.order.now a.lists.now.listed.now a.lists.now.extra.now q (done_none _ (sym c.lists_fault.ensures ∙ e)));
    }
