use Rattle.forms.proofs.Kit.{then_some}
use Rattle.forms.specs.Answers.{verdict_at}
use Rattle.forms.proofs.say.verdict_at.Goals as goal

pub returns : goal.returns
unfolding verdict_at
returns c = then_some _ _ _ _ c.in_ok-at.ensures (then_some _ _ _ _ c.in_ok-at-2.ensures c.set_end.ensures)
