-- Where n is a multiple of 64 no row can have a bit at n or above (`rows_none`); else only the last word of a row can,
-- so that looking at that word decides row r (`row_last`): the call ends at the first row found, or with all m rows behind it.
use Rattle.encoding.specs.Refusals.{some_below, bad_bits}
use Rattle.encoding.proofs.Spare.{high, rows_none, row_last}
use Rattle.encoding.proofs.Scan.{any-more, any-hit}
use native.Mathlib.Omega.{arith}
use mathlib.Core.Path.{◌≡◌, refl, sym, ap, ◌∙◌}
use Prim.Native.Nat.{ℕ}
use Rattle.encoding.proofs.bad_bits.Goals as goal

pub returns-then-k-eq0 : goal.returns-then-k-eq0
unfolding bad_bits
returns-then-k-eq0 c =
    let a = c.args in
    sym (rows_none a.n a.m a.w a.x.now a.z.now c.requires.0 c.requires.1 c.requires.2 c.if-k-eq0.true)

pub loop-r-init : goal.loop-r-init
unfolding some_below
loop-r-init c = refl

pub returns-then-above : goal.returns-then-above
unfolding bad_bits
returns-then-above c =
    let a = c.args in
    sym (any-hit (high a.n a.w a.x.now a.z.now) a.m c.loop-r.r c.loop-r-test.true
    (sym (row_last a.n a.m a.w a.x.now a.z.now c.requires.0 c.requires.1 c.requires.2 c.loop-r.r _ c.if-k-eq0.false c.loop-r-test.true (omega arith))
    ∙ sym c.above.ensures ∙ c.if-above.true))

pub loop-r-preserved : goal.loop-r-preserved
loop-r-preserved c =
    let a = c.args in
    any-more (high a.n a.w a.x.now a.z.now) c.loop-r.r c.loop-r.invariant
    (sym (row_last a.n a.m a.w a.x.now a.z.now c.requires.0 c.requires.1 c.requires.2 c.loop-r.r _ c.if-k-eq0.false c.loop-r-test.true (omega arith))
    ∙ sym c.above.ensures ∙ c.if-above.false)

pub returns : goal.returns
unfolding bad_bits
returns c =
    let a = c.args in
    let e : c.loop-r.r ≡ a.m = omega arith in
    sym (ap (λ (k : ℕ). some_below k (high a.n a.w a.x.now a.z.now)) (sym e) ∙ c.loop-r.invariant)
