-- Front, task and claim are put one behind the other, each where the one before it ends; the output has room for all, since it has for the
-- image (`task-room`, `claim-room`), and together they are the image (`run-put`).
use native.Mathlib.Omega.{arith}
use Rattle.pwl.specs.File.{run}
use Rattle.pwl.proofs.Stores.{task-room, claim-room, run-put, image-bytes}
use Rattle.pwl.proofs.storing.put_run.Goals as goal

pub put_front-requires : goal.put_front-requires
put_front-requires c =
    let a = c.args in
    let r = run a.f.n a.f.m a.lists.now.order.now a.lists.now.listed.now a.lists.now.extra.now a.x.now a.z.now a.p.now a.log.now a.cx.now a.cz.now a.cp.now in
    (omega (arith, c.requires.cp_in_bounds, image-bytes r), c.requires.n_bound.0, c.requires.n_bound.1)

pub put_task-at-requires : goal.put_task-at-requires
put_task-at-requires c =
    let a = c.args in
    let r = run a.f.n a.f.m a.lists.now.order.now a.lists.now.listed.now a.lists.now.extra.now a.x.now a.z.now a.p.now a.log.now a.cx.now a.cz.now a.cp.now in
    omega (arith, task-room r a.out.now c.requires.cp_in_bounds)

pub put_claim-requires : goal.put_claim-requires
put_claim-requires c =
    let a = c.args in
    let r = run a.f.n a.f.m a.lists.now.order.now a.lists.now.listed.now a.lists.now.extra.now a.x.now a.z.now a.p.now a.log.now a.cx.now a.cz.now a.cp.now in
    omega (arith, claim-room r a.out.now c.requires.cp_in_bounds c.put_task-at.ensures.place)

pub returns : goal.returns
returns c =
    let a = c.args in
    let r = run a.f.n a.f.m a.lists.now.order.now a.lists.now.listed.now a.lists.now.extra.now a.x.now a.z.now a.p.now a.log.now a.cx.now a.cz.now a.cp.now in
    run-put r a.out.now c.requires.cp_in_bounds a.f c.requires.n_bound.2 c.put_front.ensures c.put_task-at.ensures c.put_claim.ensures
