use Rattle.forms.proofs.Kit.{then_some, whole}
use Rattle.forms.proofs.say.number.Goals as goal

pub returns : goal.returns
returns c = then_some _ _ _ _ c.in_ok-at.ensures (whole _ _ _ _ _ c.put_decimal.ensures)
