-- Where the memory is no set of m rows within the limits, or a or b is no row, all is as it was, and so says the definition (`no-shape`, `no-a`,
-- `no-b`). Else both rows lie in the words (`in_rows`), and the memory becomes what the definition says (`becomes`).
use Rattle.encoding.specs.Set.{mem_of}
use Rattle.terms.proofs.InSet.{no-shape, no-a, no-b, in_rows, becomes}
use native.Mathlib.Omega.{arith}
use mathlib.Core.Path.{sym, ap, ◌∙◌}
use Rattle.encoding.specs.Refusals.{answer_or, done_or}
use Rattle.encoding.proofs.Faults.{done_none}
use Rattle.terms.proofs.rows.imul_unchecked.Goals as goal

pub returns-in_default : goal.returns-in_default
unfolding answer_or
returns-in_default c = let a = c.args in
    let told_all = no-shape a.n a.a.0 a.b.0 (mem_of a.m a.x.now a.z.now a.p.now) (λ e. c.in_default.not-Ok tt (c.out_fault.ensures ∙ ap done_or e)) in
    record { p_value = told_all.0; number = told_all.1 }

pub returns-then-m-a : goal.returns-then-m-a
returns-then-m-a c = let a = c.args in
    let told_all = no-a a.n a.a.0 a.b.0 (mem_of a.m a.x.now a.z.now a.p.now) (done_none _ (sym c.out_fault.ensures ∙ c.in-Ok.is)) (omega arith) in
    record { p_value = told_all.0; number = told_all.1 }

pub returns-then-m-b : goal.returns-then-m-b
returns-then-m-b c = let a = c.args in
    let told_all = no-b a.n a.a.0 a.b.0 (mem_of a.m a.x.now a.z.now a.p.now) (done_none _ (sym c.out_fault.ensures ∙ c.in-Ok.is)) (omega arith) (omega arith) in
    record { p_value = told_all.0; number = told_all.1 }

pub mul_rows-requires : goal.mul_rows-requires
mul_rows-requires c = let a = c.args in in_rows a.n (mem_of a.m a.x.now a.z.now a.p.now) _ a.a.0 a.b.0 c.words.ensures (done_none _ (sym c.out_fault.ensures ∙ c.in-Ok.is)) (omega arith) (omega arith)

pub returns : goal.returns
returns c = let a = c.args in
    let told_all = becomes a.n a.a.0 a.b.0 (mem_of a.m a.x.now a.z.now a.p.now) (done_none _ (sym c.out_fault.ensures ∙ c.in-Ok.is)) (omega arith) (omega arith) _ c.words.ensures c.mul_rows.ensures in
    record { p_value = told_all.0; number = told_all.1 }
