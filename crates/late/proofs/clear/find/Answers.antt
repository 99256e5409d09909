use native.Mathlib.Omega.{arith}
use mathlib.Core.Path.{sym, ◌∙◌}
use Rattle.reduction.proofs.Places.{place-next}
use Rattle.late.proofs.Places.{from_at, from_end}
use Rattle.late.specs.Workers.{seen_bit}
use Rattle.late.proofs.clear.find.Goals as goal

pub true_bit-requires : goal.true_bit-requires
true_bit-requires c = (c.requires.0, c.requires.1 c.loop-a.a c.loop-a-test.true)

pub returns-then-true_bit : goal.returns-then-true_bit
returns-then-true_bit c =
    let a = c.args in
    from_at (seen_bit a.col.w a.col.j a.col.i a.col.b.now a.owed.now a.col.tb.now) a.t a.listed.now c.loop-a.invariant c.loop-a-test.true (sym c.true_bit.ensures ∙ c.if-true_bit.true)

pub loop-a-preserved : goal.loop-a-preserved
loop-a-preserved c =
    let a = c.args in
    omega (arith, c.loop-a.invariant, place-next (seen_bit a.col.w a.col.j a.col.i a.col.b.now a.owed.now a.col.tb.now) a.listed.now c.loop-a.a c.loop-a-test.true (sym c.true_bit.ensures ∙ c.if-true_bit.false))

pub returns : goal.returns
returns c =
    let a = c.args in
    from_end (seen_bit a.col.w a.col.j a.col.i a.col.b.now a.owed.now a.col.tb.now) a.t a.listed.now c.loop-a.invariant c.loop-a-test.false
