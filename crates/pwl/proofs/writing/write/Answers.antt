-- What the checker's tests refuse is given at once (`write_refused`); where they refuse nothing, the parts are as long as they should be
-- (`write_shaped`), and the room alone is left to test (`write_done`).
use Rattle.std.proofs.Common.{rules, ◌≡◌, Err, sym, subst}
use Rattle.pwl.specs.File.{run}
use Rattle.pwl.specs.Calls.{Writes}
use Rattle.pwl.proofs.Writes.{write_refused, write_done}
use Rattle.pwl.proofs.writing.write.Goals as goal

pub returns-in_err-check_fault : goal.returns-in_err-check_fault
returns-in_err-check_fault c =
    let a = c.args in
    let r = run a.n a.m a.lists.now.order.now a.lists.now.listed.now a.lists.now.extra.now a.x.now a.z.now a.p.now a.log.now a.cx.now a.cz.now a.cp.now in
    let h : c.from_residual.result ≡ Err c.in_err-check_fault.field-0.0 = search rules in
    subst (Writes r a.out.now a.out.now) (sym h) (write_refused r a.out.now c.check_fault.ensures.value c.in_err-check_fault.was)

pub returns : goal.returns
returns c =
    let a = c.args in
    let r = run a.n a.m a.lists.now.order.now a.lists.now.listed.now a.lists.now.extra.now a.x.now a.z.now a.p.now a.log.now a.cx.now a.cz.now a.cp.now in
    write_done r a.out.now c.check_fault.ensures.value c.in_ok-check_fault.was c.write_run.ensures
