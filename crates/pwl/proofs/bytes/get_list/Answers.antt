-- The places of the items follow one another, and each lies among the bytes (`fits-next`). Assumes nothing.
use Rattle.pwl.proofs.Kit.{ap, ◌∙◌, arith, drop}
use Rattle.pwl.proofs.Fetches.{fetch_none, fetch_more, place-next}
use Rattle.pwl.proofs.bytes.get_list.Goals as goal

pub loop-i-init : goal.loop-i-init
loop-i-init g c = (omega arith, fetch_none _ _ _ _)

pub loop-i-preserved : goal.loop-i-preserved
loop-i-preserved g c =
    let e = c.loop-i.invariant in
    let k = g.T.Laid.BYTES in (
      omega (arith, e.0, c.BYTES-at.ensures, place-next k c.loop-i.i c.args.from),
      fetch_more k g.T.Laid.read c.args.from c.loop-i.i c.args.s.now c.args.out.now c.loop-i.out c.get.result c.get.result
          (omega (arith, c.loop-i-test.true, c.requires.1)) e.1 (c.get.ensures ∙ ap (λ (p : _). g.T.Laid.read (drop p c.args.s.now)) e.0),
    )
