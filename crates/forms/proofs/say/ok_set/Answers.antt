use Rattle.forms.proofs.Kit.{then_some}
use Rattle.forms.specs.Answers.{ok_set}
use Rattle.forms.proofs.say.ok_set.Goals as goal

pub returns : goal.returns
unfolding ok_set
returns c = then_some _ _ _ _ c.in_ok-at.ensures c.set_end.ensures
