-- There are at most 65,536 terms, so one more is always added to a sum of fewer.
use Rattle.std.proofs.Common.{sym, ◌∙◌, arith}
use Rattle.mat_elem.proofs.Span.{sum-none, sum_more, sum-bad, sum-all, term-read}
use Rattle.mat_elem.proofs.number.block_sum.Goals as goal

pub loop-i-init : goal.loop-i-init
loop-i-init g c =
    let a = c.args in
    rw (c.zero.ensures, c.zero-2.ensures)
    (sum-none g.T.Number.arithmetic g.T.Number.reaches a.terms.now.x.now a.terms.now.z.now a.terms.now.re.now a.terms.now.im.now a.ket a.first g.met.T.Number.zero_sound g.met.T.Number.zero_reaches a.last c.requires.ordered)

pub with_term-s-requires-clause-reached : goal.with_term-s-requires-clause-reached
with_term-s-requires-clause-reached g c =
    record {
      count = c.loop-i.i;
      few = omega (arith, c.requires.few);
      re = c.loop-i.invariant.re-reaches;
      im = c.loop-i.invariant.im-reaches;
    }

pub returns-then-not-both_sound : goal.returns-then-not-both_sound
returns-then-not-both_sound g c =
    let a = c.args in
    let i = c.loop-i.i in
    let s = c.loop-i.s in
    let o = g.T.Number.arithmetic in
    let e = term-read o a.terms.now.x.now a.terms.now.z.now a.terms.now.re.now a.terms.now.im.now a.ket i s c.index-terms-i.result c.index-terms-i-in-loop-i.result c.with_term-s.ensures.value c.exponent-k.ensures (omega (arith, c.requires.in-re)) (omega (arith, c.requires.in-im)) in
    sum-bad o g.T.Number.reaches a.terms.now.x.now a.terms.now.z.now a.terms.now.re.now a.terms.now.im.now a.ket a.first a.last i s c.with_term-s.result c.loop-i.invariant c.loop-i-test.true e
    (sym c.both_sound.ensures ∙ c.if-not-both_sound.true)

pub loop-i-preserved : goal.loop-i-preserved
loop-i-preserved g c =
    let a = c.args in
    let i = c.loop-i.i in
    let s = c.loop-i.s in
    let o = g.T.Number.arithmetic in
    let e = term-read o a.terms.now.x.now a.terms.now.z.now a.terms.now.re.now a.terms.now.im.now a.ket i s c.index-terms-i.result c.index-terms-i-in-loop-i.result c.with_term-s.ensures.value c.exponent-k.ensures (omega (arith, c.requires.in-re)) (omega (arith, c.requires.in-im)) in
    sum_more o g.T.Number.reaches a.terms.now.x.now a.terms.now.z.now a.terms.now.re.now a.terms.now.im.now a.ket a.first a.last i s c.with_term-s.result c.loop-i.invariant c.loop-i-test.true e
    (sym c.both_sound.ensures ∙ c.if-not-both_sound.false) (c.with_term-s.ensures.re i c.loop-i.invariant.re-reaches) (c.with_term-s.ensures.im i c.loop-i.invariant.im-reaches)

pub returns : goal.returns
returns g c =
    let a = c.args in
    sum-all g.T.Number.arithmetic g.T.Number.reaches a.terms.now.x.now a.terms.now.z.now a.terms.now.re.now a.terms.now.im.now a.ket a.first a.last c.loop-i.i c.loop-i.s c.loop-i.invariant (omega arith)
