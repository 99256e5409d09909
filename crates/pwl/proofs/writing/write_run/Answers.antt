-- The front's length decides whether there is room (`run_short`, `run_room`).
-- Where there is, the image stands at the start (`run_whole`).
use mathlib.Core.Path.{sym, ◌∙◌}
use Rattle.pwl.specs.File.{run}
use Rattle.pwl.proofs.Writes.{run_short, run_whole}
use Rattle.pwl.proofs.writing.write_run.Goals as goal

pub returns-then-too_short : goal.returns-then-too_short
returns-then-too_short c =
    let a = c.args in
    let r = run a.n a.m a.lists.now.order.now a.lists.now.listed.now a.lists.now.extra.now a.x.now a.z.now a.p.now a.log.now a.cx.now a.cz.now a.cp.now in
    run_short r a.out.now c.requires (sym c.too_short.ensures ∙ c.if-too_short.true)

pub returns : goal.returns
returns c =
    let a = c.args in
    let r = run a.n a.m a.lists.now.order.now a.lists.now.listed.now a.lists.now.extra.now a.x.now a.z.now a.p.now a.log.now a.cx.now a.cz.now a.cp.now in
    run_whole r a.out.now c.requires (sym c.too_short.ensures ∙ c.if-too_short.false) c.put_run.ensures
