use Rattle.forms.proofs.Kit.{then_some}
use Rattle.forms.specs.Answers.{verdict_plain}
use Rattle.forms.proofs.say.verdict.Goals as goal

pub returns : goal.returns
unfolding verdict_plain
returns c = then_some _ _ _ _ c.in_ok-at.ensures c.set_end.ensures
