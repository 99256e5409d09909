use Rattle.forms.proofs.Kit.{then_some}
use Rattle.forms.specs.Answers.{full_log}
use Rattle.forms.proofs.say.full.Goals as goal

pub returns : goal.returns
unfolding full_log
returns c = then_some _ _ _ _ c.in_ok-at.ensures (then_some _ _ _ _ c.in_ok-at-2.ensures c.standing.ensures)
