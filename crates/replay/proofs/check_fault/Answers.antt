-- The smaller refusal of what was to be reduced and of what is claimed, or else that of the log, is the first line by rank (`parts-refuse`,
-- `log-decides`).
use Rattle.std.proofs.Common.{rules, ◌≡◌, Err, ◌∙◌}
use Rattle.encoding.specs.Set.{set_of, mem_of}
use Rattle.replay.specs.Check.{task, claim}
use Rattle.replay.proofs.Faults.{parts-refuse, log-decides}
use Rattle.replay.proofs.check_fault.Goals as goal

pub returns-in_err-smaller-clause-value : goal.returns-in_err-smaller-clause-value
returns-in_err-smaller-clause-value c =
    let a = c.args in
    let s = a.set.now in
    let T = task s.n (set_of s) a.lists.now.order.now a.lists.now.listed.now a.lists.now.extra.now in
    let L = claim a.log.now (mem_of s.m a.cx.now a.cz.now a.cphases.now) in
    let h : c.from_residual.result ≡ Err c.in_err-smaller.field-0.0 = search rules in
    h ∙ parts-refuse T L c.reduce_fault-task.ensures.value c.set_fault.ensures.value c.smaller.ensures c.in_err-smaller.was

pub returns-clause-value : goal.returns-clause-value
returns-clause-value c =
    let a = c.args in
    let s = a.set.now in
    let T = task s.n (set_of s) a.lists.now.order.now a.lists.now.listed.now a.lists.now.extra.now in
    let L = claim a.log.now (mem_of s.m a.cx.now a.cz.now a.cphases.now) in
    log-decides T L c.reduce_fault-task.ensures.value c.set_fault.ensures.value c.smaller.ensures c.in_ok-smaller.was c.log_fault.ensures
