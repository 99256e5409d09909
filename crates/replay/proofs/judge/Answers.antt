-- Every entry is tested before any is done, so at a bad one the rows are as they were (`judge-bad`). Else all are done, the rows are the full
-- replay, a set as before (`judge-passed`), and what is said of them is the verdict (`judge-end`).
use mathlib.Core.Path.{refl}
use Rattle.encoding.specs.Set.{mem_of, set_of}
use Rattle.replay.specs.Check.{task, claim}
use Rattle.replay.specs.Workers.{redone}
use Rattle.replay.proofs.Judging.{few, judge-bad, judge-passed, judge-end}
use Rattle.replay.proofs.judge.Goals as goal

pub first_bad-requires : goal.first_bad-requires
first_bad-requires c =
    let p = c.requires.of-task in
    few p.asked p.sound.few-rows

pub returns-in-Some : goal.returns-in-Some
unfolding redone
returns-in-Some c =
    let a = c.args in
    let M = mem_of a.m a.x.now a.z.now a.phases.now in
    judge-bad (task a.n M a.lists.now.order.now a.lists.now.listed.now a.lists.now.extra.now) (claim a.log.now (set_of a.claimed.now)) c.requires c.first_bad.ensures {k = 0} {M = M} c.in-Some.is refl refl

pub compare-requires : goal.compare-requires
compare-requires c =
    let a = c.args in
    judge-passed (task a.n (mem_of a.m a.x.now a.z.now a.phases.now) a.lists.now.order.now a.lists.now.listed.now a.lists.now.extra.now) (claim a.log.now (set_of a.claimed.now)) c.requires c.first_bad.ensures c.in_default.is refl c.redo.ensures

pub returns : goal.returns
returns c =
    let a = c.args in
    judge-end (task a.n (mem_of a.m a.x.now a.z.now a.phases.now) a.lists.now.order.now a.lists.now.listed.now a.lists.now.extra.now) (claim a.log.now (set_of a.claimed.now)) c.requires c.first_bad.ensures c.in_default.is refl c.redo.ensures c.compare.ensures
