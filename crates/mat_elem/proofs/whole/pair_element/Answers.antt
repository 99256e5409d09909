use Rattle.std.proofs.Common.{IsSome, refl, sym, ◌∙◌, subst}
use lib.Bits.{bit_xor}
use Rattle.mat_elem.proofs.whole.Block.{part-ready, element-ready, span-is}
use Rattle.mat_elem.proofs.whole.pair_element.Goals as goal

pub block_sum-requires : goal.block_sum-requires
block_sum-requires c =
    let a = c.args in
    part-ready a.terms.now.x.now (bit_xor a.bra a.ket) c.block-p.ensures c.requires

pub unwrap-requires : goal.unwrap-requires
unwrap-requires c =
    let a = c.args in
    let e = c.block_sum.ensures ∙ span-is a.terms.now.x.now a.terms.now.z.now a.terms.now.re.now a.terms.now.im.now a.ket _ _ in
    subst IsSome (sym e) refl

pub returns : goal.returns
returns c =
    let a = c.args in
    let e = c.block_sum.ensures ∙ span-is a.terms.now.x.now a.terms.now.z.now a.terms.now.re.now a.terms.now.im.now a.ket _ _ in
    let f = sym c.unwrap.ensures ∙ e in
    element-ready a.terms.now.x.now (bit_xor a.bra a.ket) c.block-p.ensures a.terms.now.z.now a.terms.now.re.now a.terms.now.im.now a.ket c.requires.rising (cc)
