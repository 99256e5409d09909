-- Entry i is bad, and i is the answer (`bad-here`), or it is passed over (`bad-next`).
use mathlib.Core.Path.{sym, ◌∙◌}
use native.Mathlib.Omega.{arith}
use Rattle.replay.specs.Workers.{good_by}
use Rattle.replay.proofs.Log.{bad-here, bad-next, bad-end}
use Rattle.replay.proofs.entries.first_bad_by.Goals as goal

pub returns-then-not-good_entry : goal.returns-then-not-good_entry
returns-then-not-good_entry c =
    let a = c.args in
    let l = c.loop-i in
    let g = c.good_entry in
    bad-here (good_by a.marks.now) a.log.now l.i (omega arith) (sym c.if-not-good_entry.true ∙ g.ensures) ∙ l.invariant

pub loop-i-preserved : goal.loop-i-preserved
loop-i-preserved c =
    let a = c.args in
    let l = c.loop-i in
    let g = c.good_entry in
    bad-next (good_by a.marks.now) a.log.now l.i (omega arith) (sym c.if-not-good_entry.false ∙ g.ensures) ∙ l.invariant

pub returns : goal.returns
returns c =
    let a = c.args in
    let l = c.loop-i in
    bad-end (good_by a.marks.now) a.log.now l.i (omega arith) ∙ l.invariant
