use Rattle.reduction.proofs.Places.{place-next}
use Rattle.late.proofs.Places.{from_at, from_end}
use Rattle.terms.specs.Workers.{bit_in}
use native.Mathlib.Omega.{arith}
use mathlib.Core.Path.{sym, ◌∙◌}
use Rattle.terms.proofs.rows.find.Goals as goal

pub returns-then-get_bit : goal.returns-then-get_bit
returns-then-get_bit c =
    let a = c.args in
    let l = c.loop-i in
    from_at (λ k. bit_in a.n a.x.now a.z.now k a.c) a.t a.listed.now l.invariant c.loop-i-test.true (sym c.get_bit.ensures ∙ c.if-get_bit.true)

pub loop-i-preserved : goal.loop-i-preserved
loop-i-preserved c =
    let a = c.args in
    let l = c.loop-i in
    omega (arith, l.invariant, place-next (λ k. bit_in a.n a.x.now a.z.now k a.c) a.listed.now l.i c.loop-i-test.true (sym c.get_bit.ensures ∙ c.if-get_bit.false))

pub returns : goal.returns
returns c = let a = c.args in from_end (λ k. bit_in a.n a.x.now a.z.now k a.c) a.t a.listed.now c.loop-i.invariant c.loop-i-test.false
