-- The extra rows are marked, then the listed ones over them. So a mark says in which list a number stands, and the test of an entry by marks is
-- the test by the lists (`first-by-lists`), at every entry and so at the first bad one.
use mathlib.Core.Path.{◌∙◌}
use Rattle.reduction.specs.Log.{pairs}
use Rattle.encoding.specs.Limits.{max_rows}
use Rattle.replay.proofs.Marks.{first-by-lists}
use Rattle.replay.proofs.entries.first_bad.Goals as goal

pub returns : goal.returns
returns c =
    let a = c.args in
    let m = c.mark in
    let l = c.mark-2 in
    c.first_bad_by.ensures ∙ first-by-lists a.lists.now.listed.now a.lists.now.extra.now m.new.marks l.new.marks max_rows m.ensures l.ensures 0 (pairs a.log.now)
