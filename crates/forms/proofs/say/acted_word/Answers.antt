use Rattle.forms.proofs.Kit.{then_some}
use Rattle.forms.specs.Answers.{acted_word}
use Rattle.forms.proofs.say.acted_word.Goals as goal

pub returns : goal.returns
unfolding acted_word
returns c = then_some _ _ _ _ c.in_ok-at.ensures (then_some _ _ _ _ c.in_ok-at-2.ensures (then_some _ _ _ _ c.in_ok-at-3.ensures c.end.ensures))
