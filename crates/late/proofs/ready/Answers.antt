-- `late::ready` meets its contract: no fault means a row set within the limits, and each list is held to its limit. A list that has a number too
-- large is none of those that are asked. Assumes nothing.
use native.Mathlib.Omega.{arith}
use mathlib.Core.Path.{sym, ap, ◌∙◌}
use Rattle.encoding.specs.Set.{mem_of}
use Rattle.encoding.specs.Refusals.{answer_or, done_or}
use Rattle.encoding.proofs.Faults.{done_none}
use Rattle.encoding.proofs.Memory.{within-limits}
use Rattle.late.proofs.Scratch.{not-ready, ready-if}
use Rattle.late.proofs.ready.Goals as goal

pub returns-in_default : goal.returns-in_default
unfolding answer_or
returns-in_default c =
    let a = c.args in
    not-ready a.n a.lists.now.order.now a.lists.now.listed.now a.lists.now.extra.now (mem_of a.m a.x.now a.z.now a.p.now) (λ e. c.in_default.not-Ok tt (c.set_fault.ensures.value ∙ ap done_or e))

pub overflow_add-n : goal.overflow_add-n
overflow_add-n c =
    let a = c.args in
    let l = within-limits a.n (mem_of a.m a.x.now a.z.now a.p.now) (done_none _ (sym c.set_fault.ensures.value ∙ c.in-Ok.is)) in
    omega (arith, l.0)

pub returns : goal.returns
returns c =
    let a = c.args in
    ready-if a.n a.lists.now.order.now a.lists.now.listed.now a.lists.now.extra.now (mem_of a.m a.x.now a.z.now a.p.now) c.in-Ok.ensures.valid (done_none _ (sym c.set_fault.ensures.value ∙ c.in-Ok.is))
    c.too_large-a.result c.too_large-b.result c.too_large-c.result c.too_large-a.ensures c.too_large-b.ensures c.too_large-c.ensures
