use borrow.Author.Tests.{le-ltb}
use Rattle.std.proofs.Common.{refl, sym, ◌∙◌}
use Rattle.encoding.specs.Refusals.{bad_phases}
use Rattle.encoding.proofs.Exponents.{spare-out}
use Rattle.encoding.proofs.bad_phases.Goals as goal

pub returns-then-j-p : goal.returns-then-j-p
unfolding bad_phases
returns-then-j-p c = refl

pub returns-else-j-p : goal.returns-else-j-p
returns-else-j-p c = le-ltb _ _ c.if-j-p.false ∙ sym (spare-out c.args.m c.args.p.now c.if-j-p.false)
