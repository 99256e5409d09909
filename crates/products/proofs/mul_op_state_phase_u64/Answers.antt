use Rattle.std.proofs.Common.{ℕ, ◌%◌, ap, arith}
use Rattle.products.proofs.WordPhase.{acting-phases, below₃}
use Rattle.products.proofs.mul_op_state_phase_u64.Goals as goal

pub returns : goal.returns
returns c =
    let e = acting-phases 64 c.args.lx c.args.lz c.args.r (below₃ 64 c.ranges.lx.fits c.ranges.lz.fits c.ranges.r.fits) in
    ap (λ (n : ℕ). n % 4) (omega arith)
