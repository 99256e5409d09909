use Rattle.forms.proofs.Kit.{then_some}
use Rattle.forms.specs.Answers.{ok_letter}
use Rattle.forms.proofs.say.ok_letter.Goals as goal

pub returns : goal.returns
unfolding ok_letter
returns c = then_some _ _ _ _ c.in_ok-at.ensures (then_some _ _ _ _ (rw c.letter_of.ensures at c.in_ok-at-2.ensures) c.end.ensures)
