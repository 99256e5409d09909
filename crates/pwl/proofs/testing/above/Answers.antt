use mathlib.Core.Path.{sym}
use Rattle.encoding.proofs.Spare.{above-is}
use Rattle.pwl.proofs.testing.above.Goals as goal

pub returns : goal.returns
returns c = sym (above-is c.args.k c.args.x c.args.z c.requires c.ranges.x.fits c.ranges.z.fits)
