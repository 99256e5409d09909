use Rattle.terms.proofs.Answers.{count-more, count-all}
use native.Mathlib.Omega.{arith}
use mathlib.Core.Path.{refl, ◌∙◌}
use lib.ListN.{length-set}
use Rattle.terms.proofs.count_up.Goals as goal

pub loop-i-init : goal.loop-i-init
loop-i-init c = (refl, λ j h. absurd (omega arith))

pub loop-i-preserved : goal.loop-i-preserved
loop-i-preserved c = let l = c.loop-i in (length-set l.list l.i l.i ∙ l.invariant.0, count-more l.list l.i (omega arith) l.invariant.1)

pub returns : goal.returns
returns c = let l = c.loop-i in count-all l.list _ l.invariant.0 (λ j h. l.invariant.1 j (omega arith))
