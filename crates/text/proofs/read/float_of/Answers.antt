use Rattle.text.proofs.Kit.{refl, le-ltb, le-leb, lt-leb}
use lib.Ieee.{binary64, div, of_bits}
use lib.Ieee.Bits.{nan_bits_above}
use Rattle.text.specs.Numbers.{float_of}
use Rattle.text.proofs.read.float_of.Goals as goal

pub float_from_bits-result : goal.float_from_bits-result
float_from_bits-result c = rw (nan_bits_above binary64 c.args.bits, le-ltb _ _ c.if-bits-le-INFINITY.true) tt

pub returns-then-bits-le-INFINITY : goal.returns-then-bits-le-INFINITY
unfolding float_of
returns-then-bits-le-INFINITY c = rw (le-leb _ _ c.if-bits-le-INFINITY.true)

pub returns-else-bits-le-INFINITY : goal.returns-else-bits-le-INFINITY
unfolding float_of div of_bits
returns-else-bits-le-INFINITY c = rw (lt-leb _ _ c.if-bits-le-INFINITY.false) refl
