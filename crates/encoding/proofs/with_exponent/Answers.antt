-- The word as the shifts make it is the definition's (`code-with`): what lies above the exponent is shifted back to its place without a loss, so that it and the
-- rest fit one word (`with-fits`).
use native.Mathlib.Omega.{arith}
use Prim.Native.Nat.{◌%◌}
use Rattle.encoding.proofs.Exponents.{code-with, with-fits}
use Rattle.encoding.proofs.with_exponent.Goals as goal

pub overflow_add-result : goal.overflow_add-result
overflow_add-result c = record { fits = rw (code-with c.args.v (c.args.r.0 % 32) c.args.e.0 (omega arith) c.ranges.v.fits) (with-fits c.args.v (c.args.r.0 % 32) c.args.e.0) }

pub returns : goal.returns
returns c = code-with c.args.v (c.args.r.0 % 32) c.args.e.0 (omega arith) c.ranges.v.fits
