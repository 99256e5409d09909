use mathlib.Core.Path.{refl, sym}
use Rattle.encoding.specs.Set.{exponent_at}
use Rattle.encoding.proofs.Exponents.{exponent-out}
use Rattle.encoding.proofs.get_exponent.Goals as goal

pub returns-then-j-p : goal.returns-then-j-p
unfolding exponent_at
returns-then-j-p c = refl

pub returns : goal.returns
returns c = sym (exponent-out c.args.p.now c.args.r.0 c.if-j-p.false)
