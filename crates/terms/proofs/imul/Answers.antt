-- Where nothing is refused both rows are in the set, and the product in memory is theirs (`imul-done`).
use Rattle.std.proofs.Common.{ap, ◌∙◌, Ok}
use Rattle.encoding.specs.Set.{mem_of}
use Rattle.encoding.proofs.Faults.{passing, made}
use Rattle.terms.proofs.Answers.{imul-done}
use Rattle.terms.proofs.imul.Goals as goal

pub returns : goal.returns
returns c =
    let a = c.args in
    let d = imul-done a.n a.a.0 a.b.0 (mem_of a.m a.x.now a.z.now a.phases.now) c.in_ok-row_fault.ensures.readable (c.imul_unchecked.ensures.p_value, c.imul_unchecked.ensures.number) in
    let e = c.row_fault.ensures.value in
    let w = c.in_ok-row_fault.was in
    record { answer = ap (λ k. Ok k) d.1 ∙ passing _ _ e w _; rows = d.0 ∙ made _ _ e w _ _ }
