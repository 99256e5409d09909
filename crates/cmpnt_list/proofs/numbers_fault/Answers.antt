use Rattle.std.proofs.Common.{not, ap, cond, sym}
use borrow.Author.Tests.{ne_eqb, eq-eqb}
use Rattle.encoding.specs.Refusals.{answer_or, done_or}
use Rattle.encoding.specs.Ranks.{by_rank}
use Rattle.cmpnt_list.proofs.numbers_fault.Goals as goal

pub returns-then-q-m : goal.returns-then-q-m
unfolding answer_or by_rank
returns-then-q-m c = ap (λ b. done_or (cond (not b) 3 0)) (sym (ne_eqb _ _ c.if-q-m.true))

pub returns : goal.returns
unfolding answer_or by_rank
returns c = ap (λ b. done_or (cond (not b) 3 0)) (sym (eq-eqb _ _ c.if-q-m.false))
