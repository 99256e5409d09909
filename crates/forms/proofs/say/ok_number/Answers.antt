use Rattle.forms.proofs.Kit.{then_some}
use Rattle.forms.specs.Answers.{ok_number}
use Rattle.forms.proofs.say.ok_number.Goals as goal

pub returns : goal.returns
unfolding ok_number
returns c = then_some _ _ _ _ c.in_ok-at.ensures c.number_end.ensures
