-- The lists and then the set, which starts where they end (`put_then`).
-- There is room for both.
use Rattle.pwl.specs.Workers.{parts}
use Rattle.pwl.proofs.Stores.{three_put, put_then}
use Rattle.pwl.proofs.storing.put_task.Goals as goal

pub returns : goal.returns
returns c =
    let a = c.args in
    let u = c.put_lists-at.ensures in
    let w = c.put_rows.ensures in
    put_then (parts 2 a.lists.now.order.now a.lists.now.listed.now a.lists.now.extra.now) (parts 8 a.x.now a.z.now a.p.now) 41 a.out.now c.requires
    (three_put 2 a.lists.now.order.now a.lists.now.listed.now a.lists.now.extra.now 41 a.out.now u.0 u.1) (three_put 8 a.x.now a.z.now a.p.now _ _ w.0 w.1)
