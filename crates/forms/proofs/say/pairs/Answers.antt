use Rattle.forms.proofs.Kit.{then_some}
use Rattle.forms.proofs.say.pairs.Goals as goal

pub returns : goal.returns
returns c = then_some _ _ _ _ c.in_ok-at.ensures c.put_pairs.ensures
