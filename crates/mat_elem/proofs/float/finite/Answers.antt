use lib.Ieee.{neg, div, of_bits}
use Rattle.mat_elem.proofs.float.Scan.{between}
use Rattle.mat_elem.proofs.float.finite.Goals as goal

pub returns : goal.returns
unfolding neg div of_bits
returns c = between c.args.x
