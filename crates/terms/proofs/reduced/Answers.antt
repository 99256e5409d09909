use mathlib.Core.Path.{refl}
use Rattle.terms.proofs.Answers.{ends-done, ends-full}
use Rattle.terms.proofs.reduced.Goals as goal

pub returns-in-Ok : goal.returns-in-Ok
returns-in-Ok c = let a = c.args in ends-done a.n a.lists.now.order.now a.lists.now.listed.now a.lists.now.extra.now c.in-Ok.ensures refl

pub returns-in-Err : goal.returns-in-Err
returns-in-Err c = let a = c.args in ends-full a.n a.lists.now.order.now a.lists.now.listed.now a.lists.now.extra.now c.in-Err.ensures refl
