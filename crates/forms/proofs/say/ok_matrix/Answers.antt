use Rattle.forms.proofs.Kit.{then_some}
use Rattle.forms.specs.Answers.{ok_matrix}
use Rattle.forms.proofs.say.ok_matrix.Goals as goal

pub returns : goal.returns
unfolding ok_matrix
returns c = then_some _ _ _ _ c.in_ok-at.ensures c.words_end.ensures
