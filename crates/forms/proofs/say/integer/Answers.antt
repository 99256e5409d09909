use Rattle.forms.proofs.Kit.{then_some, whole}
use mir.Facts.{to_z-of_z}
use Rattle.forms.proofs.say.integer.Goals as goal

pub returns : goal.returns
returns c = then_some _ _ _ _ c.in_ok-at.ensures (rw (to_z-of_z c.ranges.v) at (whole _ _ _ _ _ c.put_integer.ensures))
