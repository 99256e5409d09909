use Rattle.text.proofs.Kit.{◌+◌, ◌-◌, arith}
use Rattle.text.proofs.Writing.{size_small, size-more}
use Rattle.text.proofs.write.size.Goals as goal

pub returns-then-w-base : goal.returns-then-w-base
returns-then-w-base c =
    let l = c.loop-n in
    (omega (arith, l.invariant, size_small c.args.base (21 - l.n) l.w c.if-w-base.true), omega arith)

pub loop-n-preserved : goal.loop-n-preserved
loop-n-preserved c =
    let l = c.loop-n in
    omega (arith, l.invariant, size-more c.args.base (21 - l.n) (21 - (l.n + 1)) l.w (omega arith) c.if-w-base.false)
