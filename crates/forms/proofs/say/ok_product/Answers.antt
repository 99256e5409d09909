use Rattle.forms.proofs.Kit.{then_some}
use Rattle.forms.specs.Answers.{ok_product}
use Rattle.forms.proofs.say.ok_product.Goals as goal

pub returns : goal.returns
unfolding ok_product
returns c = then_some _ _ _ _ c.in_ok-at.ensures (then_some _ _ _ _ c.in_ok-at-2.ensures c.number_end.ensures)
