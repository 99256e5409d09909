use Rattle.std.proofs.Common.{ap, cond, sym}
use borrow.Author.Tests.{ne_eqb, eq-eqb}
use Rattle.encoding.specs.Refusals.{answer_or, done_or}
use Rattle.encoding.specs.Ranks.{by_rank}
use Rattle.replay.proofs.log_fault.Goals as goal

pub returns-then-units-eq1 : goal.returns-then-units-eq1
unfolding answer_or by_rank
returns-then-units-eq1 c = ap (λ b. done_or (cond b 9 0)) (sym (eq-eqb _ _ c.if-units-eq1.true))

pub returns : goal.returns
unfolding answer_or by_rank
returns c = ap (λ b. done_or (cond b 9 0)) (sym (ne_eqb _ _ c.if-units-eq1.false))
