use Rattle.forms.proofs.Kit.{then_some}
use Rattle.forms.specs.Answers.{refuse}
use Rattle.forms.proofs.say.refuse.Goals as goal

pub returns : goal.returns
unfolding refuse
returns c = then_some _ _ _ _ c.in_ok-at.ensures c.number_end.ensures
