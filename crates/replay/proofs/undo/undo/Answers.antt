-- No loop: at a refusal the rows are as they were (`undo-refusing`); where there is none, what the walk leaves is the call's (`undo-walking`).
use Rattle.std.proofs.Common.{rules, ◌≡◌, sym, subst}
use Rattle.encoding.specs.Set.{mem_of}
use Rattle.replay.specs.Undo.{Undone, Refused, Undoes}
use Rattle.replay.proofs.Walking.{undo-refusing, undo-walking}
use Rattle.replay.proofs.undo.undo.Goals as goal

pub returns-in_err-undo_fault : goal.returns-in_err-undo_fault
returns-in_err-undo_fault c =
    let a = c.args in
    let M = mem_of a.m a.x.now a.z.now a.phases.now in
    let h : c.from_residual.result ≡ Refused c.in_err-undo_fault.field-0.0.0 = search rules in
    let R : Undone → Type 0 = λ r. Undoes a.n a.lists.now.listed.now a.lists.now.extra.now a.log.now M M r in
    subst R (sym h) (undo-refusing a.n a.lists.now.listed.now a.lists.now.extra.now a.log.now M c.undo_fault.ensures.value c.in_err-undo_fault.was)

pub returns : goal.returns
returns c =
    let a = c.args in
    undo-walking a.n a.lists.now.listed.now a.lists.now.extra.now a.log.now (mem_of a.m a.x.now a.z.now a.phases.now) c.undo_fault.ensures.value c.in_ok-undo_fault.was c.walk_back.ensures
