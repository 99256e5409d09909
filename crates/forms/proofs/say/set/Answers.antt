use Rattle.forms.proofs.Kit.{then_some}
use Rattle.forms.proofs.say.set.Goals as goal

pub returns : goal.returns
returns c = then_some _ _ _ _ c.in_ok-at.ensures (then_some _ _ _ _ c.in_ok-at-2.ensures c.words-3.ensures)
