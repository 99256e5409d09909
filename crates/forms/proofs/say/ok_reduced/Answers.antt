use Rattle.forms.proofs.Kit.{then_some}
use Rattle.forms.specs.Answers.{ok_reduced}
use Rattle.forms.proofs.say.ok_reduced.Goals as goal

pub returns : goal.returns
unfolding ok_reduced
returns c = then_some _ _ _ _ c.in_ok-at.ensures (then_some _ _ _ _ c.in_ok-at-2.ensures (then_some _ _ _ _ c.in_ok-at-3.ensures c.standing.ensures))
