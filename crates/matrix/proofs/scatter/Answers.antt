-- Each word goes into a row of its own (`one-row`), so that none that stands is overwritten.
use Rattle.std.proofs.Common.{arith, refl, ◌∙◌, ◌+◌, ◌<◌, zero-le}
use Rattle.matrix.proofs.Writing.{place-lt, one-row, wrote-more}
use Rattle.matrix.proofs.scatter.Goals as goal

pub bounds-out-index : goal.bounds-out-index
bounds-out-index c =
    let h : c.args.first + c.loop-r.r < c.args.m = omega (arith, c.requires.v_le_wide.3, c.loop-r-test.true) in
    omega (arith, place-lt (c.args.first + c.loop-r.r) c.args.m c.args.v c.args.b h c.requires.v_le_wide.2 c.index.ensures.0)

pub loop-r-preserved : goal.loop-r-preserved
loop-r-preserved c =
    let e = c.index.ensures.0 in
    let h : c.args.first + c.loop-r.r < c.args.m = omega (arith, c.requires.v_le_wide.3, c.loop-r-test.true) in
    let q = place-lt (c.args.first + c.loop-r.r) c.args.m c.args.v c.args.b h c.requires.v_le_wide.2 e in
    wrote-more c.index.result _ c.loop-r.invariant zero-le (omega (arith, q, c.requires.c_len.1)) e refl
    (λ k f g z. let t = one-row c.args.v (c.args.first + k) (c.args.first + c.loop-r.r) c.requires.v_le_wide.2 c.requires.v_le_wide.2 (z ∙ e) in omega (arith, t, g))
