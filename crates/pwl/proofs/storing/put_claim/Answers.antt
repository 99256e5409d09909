-- The log and then the set, which starts where the log ends (`put_then`).
-- There is room for both.
use mathlib.Core.List.{[], ◌∷◌}
use Rattle.pwl.specs.File.{part}
use Rattle.pwl.specs.Workers.{parts}
use Rattle.pwl.proofs.Stores.{one_put, three_put, put_then}
use Rattle.pwl.proofs.storing.put_claim.Goals as goal

pub returns : goal.returns
returns c =
    let a = c.args in
    let u = c.put_list-next.ensures in
    let w = c.put_rows.ensures in
    put_then (part 2 a.log.now ∷ []) (parts 8 a.cx.now a.cz.now a.cp.now) a.at a.out.now c.requires
    (one_put 2 a.log.now a.at a.out.now u.0 u.1) (three_put 8 a.cx.now a.cz.now a.cp.now _ _ w.0 w.1)
