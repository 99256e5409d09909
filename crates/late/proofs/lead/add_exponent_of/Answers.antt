use mathlib.Core.Path.{ap, ◌∙◌}
use native.Mathlib.Omega.{arith}
use Rattle.encoding.specs.Set.{with_exponent}
use Rattle.late.proofs.lead.add_exponent_of.Goals as goal

pub returns : goal.returns
returns c = c.set_exponent.ensures ∙ ap (with_exponent c.args.p.now c.args.a.0) (omega (arith, c.add_signs.ensures, c.get_exponent-l.ensures, c.get_exponent-r.ensures))
