-- A turn ends at no digit, at a digit that may not stand there, or takes one (Reading).
use Rattle.text.proofs.Kit.{sym, ◌∙◌}
use Rattle.text.proofs.Reading.{at-end, at_other, refused, taken}
use Rattle.text.proofs.read.number.Goals as goal

pub returns-in_default-clause-read : goal.returns-in_default-clause-read
returns-in_default-clause-read c =
    let l = c.loop-i in
    rw c.ended.ensures (at_other _ _ _ _ l.invariant l.auto.i c.loop-i-test.true c.in_default.ensures)

pub returns-then-not-takes-clause-read : goal.returns-then-not-takes-clause-read
returns-then-not-takes-clause-read c =
    let l = c.loop-i in
    let d = c.in-Some.ensures in
    refused _ _ _ _ l.invariant l.auto.i c.loop-i-test.true d.0 d.1 (rw c.requires.2 at (sym c.takes.ensures ∙ c.if-not-takes.true))

pub loop-i-preserved : goal.loop-i-preserved
loop-i-preserved c =
    let l = c.loop-i in
    let d = c.in-Some.ensures in
    taken _ _ _ _ l.invariant l.auto.i c.loop-i-test.true d.0 d.1 (rw c.requires.2 at (sym c.takes.ensures ∙ c.if-not-takes.false))

pub returns-clause-read : goal.returns-clause-read
returns-clause-read c =
    let l = c.loop-i in
    rw c.ended-2.ensures (at-end _ _ _ _ l.invariant l.auto.i c.loop-i-test.false l.auto.i-end)
