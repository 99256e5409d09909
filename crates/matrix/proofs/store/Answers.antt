-- Each sum is written into a row of its own (`one-row`), so that no sum that stands is overwritten.
use Rattle.std.proofs.Common.{arith, refl, sym, ap, ◌∙◌, ℕ, ◌+◌, ◌*◌, zero-add}
use Rattle.matrix.proofs.Writing.{place-lt, one-row, wrote-more, wrote-all}
use Rattle.matrix.proofs.store.Goals as goal

pub loop-i-preserved : goal.loop-i-preserved
loop-i-preserved c =
    let r = c.loop-i.i in
    let e = c.index.ensures.0 in
    let f = e ∙ ap (λ (n : ℕ). n * c.args.v + c.args.a) (sym (zero-add r)) in
    wrote-more c.index.result _ c.loop-i.invariant (omega arith)
    (omega (arith, place-lt r c.args.m c.args.v c.args.a c.loop-i-test.true c.requires.v_le_wide.2 e, c.requires.out_len.0)) f refl
    (λ k g h z. let t = one-row c.args.v (0 + k) (0 + r) c.requires.v_le_wide.2 c.requires.v_le_wide.2 (z ∙ f) in omega (arith, t, h))

pub returns : goal.returns
returns c = wrote-all c.loop-i.invariant (omega arith) c.loop-i-test.false
