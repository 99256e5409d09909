use Rattle.forms.proofs.Kit.{then_some}
use Rattle.std.specs.Prelude.{None}
use Rattle.text.proofs.Adding.{cut}
use Rattle.forms.specs.Answers.{ok_counts}
use Rattle.forms.proofs.say.ok_counts.Goals as goal

pub returns : goal.returns
unfolding ok_counts
returns c = then_some _ _ _ _ c.in_ok-at.ensures (then_some _ _ _ _ c.in_ok-at-2.ensures (then_some _ _ _ _ c.in_ok-at-3.ensures (then_some _ _ _ _ c.in_ok-at-4.ensures (then_some _ _ _ _ c.in_ok-at-5.ensures c.end.ensures))))

pub returns-in_err-at-3 : goal.returns-in_err-at-3
unfolding ok_counts
returns-in_err-at-3 c = rw c.from_residual-in_err-at-3.ensures (then_some _ _ _ None c.in_ok-at.ensures (then_some _ _ _ None c.in_ok-at-2.ensures (cut _ _ c.in_err-at-3.ensures)))

pub returns-in_err-at-4 : goal.returns-in_err-at-4
unfolding ok_counts
returns-in_err-at-4 c =
    rw c.from_residual-in_err-at-4.ensures
    (then_some _ _ _ None c.in_ok-at.ensures (then_some _ _ _ None c.in_ok-at-2.ensures (then_some _ _ _ None c.in_ok-at-3.ensures (cut _ _ c.in_err-at-4.ensures))))

pub returns-in_err-at-5 : goal.returns-in_err-at-5
unfolding ok_counts
returns-in_err-at-5 c =
    rw c.from_residual-in_err-at-5.ensures
    (then_some _ _ _ None c.in_ok-at.ensures (then_some _ _ _ None c.in_ok-at-2.ensures
    (then_some _ _ _ None c.in_ok-at-3.ensures (then_some _ _ _ None c.in_ok-at-4.ensures (cut _ _ c.in_err-at-5.ensures)))))
