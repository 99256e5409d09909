use Rattle.std.proofs.Common.{ℕ, ◌+◌, ◌%◌, ◌^◌, ap, ◌∙◌, arith}
use Rattle.products.proofs.WordPhase.{apart-clashes, below₄}
use Rattle.products.proofs.add_clashes.Goals as goal

pub returns : goal.returns
returns c =
    let e = apart-clashes 64 c.args.lx c.args.lz c.args.rx c.args.rz (below₄ 64 c.ranges.lx.fits c.ranges.lz.fits c.ranges.rx.fits c.ranges.rz.fits) in
    c.wrapping_add_u64.ensures.value ∙ ap (λ (k : ℕ). (c.args.n + k) % 2 ^ 64) (omega arith)
