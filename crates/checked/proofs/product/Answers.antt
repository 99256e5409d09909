use lib.IntN.{◌*ℤ◌}
use mir.Facts.{to_z-of_z}
use Rattle.checked.proofs.Laws.{as_checked}
use Rattle.checked.proofs.product.Goals as goal

pub returns : goal.returns
returns c = as_checked _ (c.args.a *ℤ c.args.b) (rw (to_z-of_z c.ranges.a, to_z-of_z c.ranges.b) at c.checked_mul.ensures)
