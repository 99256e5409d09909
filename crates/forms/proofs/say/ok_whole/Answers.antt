use Rattle.std.specs.Prelude.{None}
use Rattle.text.proofs.Adding.{cut}
use mir.Facts.{to_z-of_z}
use Rattle.forms.proofs.Kit.{then_some}
use Rattle.forms.specs.Answers.{ok_whole}
use Rattle.forms.proofs.say.ok_whole.Goals as goal

pub returns : goal.returns
unfolding ok_whole
returns c =
    then_some _ _ _ _ c.in_ok-at.ensures
    (then_some _ _ _ _ (rw (to_z-of_z c.ranges.re) at c.in_ok-at-2.ensures) (then_some _ _ _ _ (rw (to_z-of_z c.ranges.im) at c.in_ok-at-3.ensures) c.end.ensures))

pub returns-in_err-at-3 : goal.returns-in_err-at-3
unfolding ok_whole
returns-in_err-at-3 c =
    rw c.from_residual-in_err-at-3.ensures
    (then_some _ _ _ None c.in_ok-at.ensures
    (then_some _ _ _ None (rw (to_z-of_z c.ranges.re) at c.in_ok-at-2.ensures) (cut _ _ (rw (to_z-of_z c.ranges.im) at c.in_err-at-3.ensures))))
