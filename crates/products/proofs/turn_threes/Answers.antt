use Rattle.products.proofs.WordPhase.{turned, below₄}
use Rattle.products.proofs.turn_threes.Goals as goal

pub returns : goal.returns
returns c = turned 64 c.args.lx c.args.lz c.args.rx c.args.rz c.args.f (below₄ 64 c.ranges.lx.fits c.ranges.lz.fits c.ranges.rx.fits c.ranges.rz.fits) c.ranges.f.fits
