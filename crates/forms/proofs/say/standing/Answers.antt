use Rattle.forms.proofs.Kit.{then_some}
use Rattle.forms.specs.Answers.{standing}
use Rattle.forms.proofs.say.standing.Goals as goal

pub returns : goal.returns
unfolding standing
returns c = then_some _ _ _ _ c.in_ok-at.ensures c.set_end.ensures
