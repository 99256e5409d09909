-- `replay::undo::walk_back` meets its contract. Assumes nothing.
use Rattle.replay.proofs.Judging.{few}
use Rattle.replay.proofs.Walking.{walk-bad, walk-done}
use Rattle.replay.proofs.undo.walk_back.Goals as goal

pub first_bad-requires : goal.first_bad-requires
first_bad-requires c = let p = c.requires in few p.asked p.sound.few-rows

pub returns-in-Some : goal.returns-in-Some
returns-in-Some c =
    let a = c.args in
    walk-bad a.n a.lists.now.listed.now a.lists.now.extra.now a.log.now c.requires c.first_bad.ensures c.in-Some.is

pub returns : goal.returns
returns c =
    let a = c.args in
    walk-done a.n a.lists.now.listed.now a.lists.now.extra.now a.log.now c.requires c.first_bad.ensures c.in_default.is c.take_back.ensures
