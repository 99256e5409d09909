use Rattle.encoding.proofs.OneBit.{code-on, code_off}
use Rattle.encoding.proofs.with_bit.Goals as goal

pub returns-then-b : goal.returns-then-b
returns-then-b c = code-on c.args.v c.args.k c.args.b c.requires c.ranges.v.fits c.if-b.true

pub returns-else-b : goal.returns-else-b
returns-else-b c = code_off c.args.v c.args.k c.args.b c.requires c.ranges.v.fits c.if-b.false
