use Rattle.std.proofs.Common.{ap, ◌∙◌, arith}
use Rattle.std.proofs.lemmas.List.{get_or_default}
use Rattle.mat_elem.proofs.Wild.{wild-none, wild-more, wild-all}
use Rattle.mat_elem.proofs.number.some_wild.Goals as goal

pub loop-i-init : goal.loop-i-init
loop-i-init g c = wild-none g.T.Number.arithmetic c.args.re.now c.args.im.now c.requires

pub loop-i-preserved : goal.loop-i-preserved
loop-i-preserved g c =
    let o = g.T.Number.arithmetic in
    let a = c.args in
    let i = c.loop-i.i in
    let re = c.index-re-i.is ∙ get_or_default a.re.now i c.index-re-i.result o.past (omega arith) in
    let im = c.index-im-i.is ∙ get_or_default a.im.now i c.index-im-i.result o.past (omega arith) in
    wild-more o a.re.now a.im.now c.requires c.loop-i.invariant c.loop-i-test.true
    (c.is_sound.ensures ∙ ap o.sound (c.widen.ensures.value ∙ ap o.widened re))
    (c.is_sound-in-loop-i.ensures ∙ ap o.sound (c.widen-in-loop-i.ensures.value ∙ ap o.widened im))

pub returns : goal.returns
returns g c = wild-all g.T.Number.arithmetic c.args.re.now c.args.im.now c.requires c.loop-i.invariant (omega arith)
