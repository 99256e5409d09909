-- At a refusal all is as it was.
use Rattle.std.proofs.Common.{rules, ◌≡◌, Err, ◌∙◌}
use Rattle.encoding.specs.Set.{mem_of}
use Rattle.encoding.proofs.Faults.{refusing, kept}
use Rattle.replay.specs.Check.{task, claim}
use Rattle.replay.proofs.Faults.{tells}
use Rattle.replay.proofs.check.Goals as goal

pub returns-in_err-check_fault : goal.returns-in_err-check_fault
returns-in_err-check_fault c =
    let a = c.args in
    let T = task a.n (mem_of a.m a.x.now a.z.now a.phases.now) a.lists.now.order.now a.lists.now.listed.now a.lists.now.extra.now in
    let L = claim a.log.now (mem_of a.m a.cx.now a.cz.now a.cphases.now) in
    let f = c.check_fault.ensures in
    let h : c.from_residual.result ≡ Err c.in_err-check_fault.field-0.0 = search rules in
    record {
      answer = h ∙ refusing _ _ f.value c.in_err-check_fault.was _;
      rows = kept _ _ f.value c.in_err-check_fault.was _ _;
      passed = tells T L f.value f.passed;
    }
