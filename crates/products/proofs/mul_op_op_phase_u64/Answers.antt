use Rattle.std.proofs.Common.{ℕ, ◌%◌, ap, arith}
use Rattle.products.proofs.WordPhase.{joined-phases, below₄}
use Rattle.products.proofs.mul_op_op_phase_u64.Goals as goal

pub returns : goal.returns
returns c =
    let e = joined-phases 64 c.args.lx c.args.lz c.args.rx c.args.rz (below₄ 64 c.ranges.lx.fits c.ranges.lz.fits c.ranges.rx.fits c.ranges.rz.fits) in
    ap (λ (n : ℕ). n % 4) (omega arith)
