-- A turn ends the list or takes an item, and is one of Taking's lemmas. Assumes nothing.
use Rattle.text.proofs.Kit.{arith}
use Rattle.text.proofs.Taking.{last, halved, turn}
use Rattle.text.proofs.list.items.Goals as goal

pub returns-then-first : goal.returns-then-first
returns-then-first g c =
    let t = c.loop-n.invariant in
    halved _ _ _ _ _ t (omega (arith, t.same, c.loop-n-test.true)) c.in-Some.ensures (rw c.mark.ensures at c.in_default-past.ensures) c.if-first.true

pub returns-else-first : goal.returns-else-first
returns-else-first g c =
    let t = c.loop-n.invariant in
    last _ _ _ _ _ t (omega (arith, t.same, c.loop-n-test.true)) c.in-Some.ensures (rw c.mark.ensures at c.in_default-past.ensures) c.if-first.false

pub loop-n-preserved : goal.loop-n-preserved
loop-n-preserved g c =
    let t = c.loop-n.invariant in
    turn _ _ _ _ _ t (omega (arith, t.same, c.loop-n-test.true)) c.in-Some.ensures (rw c.mark.ensures at c.in-Some-past.ensures)
