-- The first row that differs gives the verdict (`says-differs`); if there is none, the test of reduced form gives it (`says-yes`,
-- `says-not-reduced`). The rows are compared as they stand, so the replay has been done before.
use Rattle.encoding.specs.Set.{set_of}
use Rattle.replay.specs.Check.{task}
use Rattle.replay.proofs.Judging.{says-differs, says-yes, says-not-reduced}
use Rattle.replay.proofs.compare.Goals as goal

pub returns-in-Some : goal.returns-in-Some
returns-in-Some c =
    let a = c.args in
    let T = task a.set.now.n (set_of a.set.now) a.lists.now.order.now a.lists.now.listed.now a.lists.now.extra.now in
    let C = set_of a.claimed.now in
    says-differs T C c.requires c.first_diff.ensures c.in-Some.is

pub returns-then-is_reduced : goal.returns-then-is_reduced
returns-then-is_reduced c =
    let a = c.args in
    let T = task a.set.now.n (set_of a.set.now) a.lists.now.order.now a.lists.now.listed.now a.lists.now.extra.now in
    let C = set_of a.claimed.now in
    says-yes T C c.requires c.first_diff.ensures c.in_default.is c.is_reduced.ensures c.if-is_reduced.true

pub returns : goal.returns
returns c =
    let a = c.args in
    let T = task a.set.now.n (set_of a.set.now) a.lists.now.order.now a.lists.now.listed.now a.lists.now.extra.now in
    let C = set_of a.claimed.now in
    says-not-reduced T C c.requires c.first_diff.ensures c.in_default.is c.is_reduced.ensures c.if-is_reduced.false
