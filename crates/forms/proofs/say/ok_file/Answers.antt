use Rattle.forms.proofs.Kit.{then_some}
use Rattle.forms.specs.Answers.{ok_file}
use Rattle.forms.proofs.say.ok_file.Goals as goal

pub returns : goal.returns
unfolding ok_file
returns c = then_some _ _ _ _ c.in_ok-at.ensures (then_some _ _ _ _ c.in_ok-at-2.ensures c.end.ensures)
