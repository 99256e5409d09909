use Rattle.text.proofs.Kit.{refl, sym, ◌∙◌}
use Rattle.naming.proofs.Spelled.{same-pointwise}
use Rattle.naming.proofs.named.Goals as goal

pub returns-then-eq : goal.returns-then-eq
returns-then-eq c = rw (same-pointwise c.args.s.now c.args.name.now ∙ (sym c.eq.ensures ∙ c.if-eq.true)) refl

pub returns-else-eq : goal.returns-else-eq
returns-else-eq c = rw (same-pointwise c.args.s.now c.args.name.now ∙ (sym c.eq.ensures ∙ c.if-eq.false)) refl
