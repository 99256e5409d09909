-- The two parts stand by rank (`state-parts`). At a refusal the state is as it was; where neither part is refused, what the worker leaves is the action.
use Rattle.std.proofs.Common.{rules, ◌≡◌, Err, Ok, sym, ap, ◌∙◌, ℕ}
use borrow.Author.Tests.{leb-false}
use Rattle.encoding.specs.Set.{set_of, rows_held}
use Rattle.encoding.specs.Refusals.{row_lines, state_lines, too_large}
use Rattle.encoding.proofs.Faults.{refusing, passing, kept, made, both-ok, done_none, if-ok}
use Rattle.encoding.proofs.Ranks.{both-parts}
use Rattle.cmpnt_list.proofs.Tests.{state-parts}
use Rattle.cmpnt_list.proofs.imul_state.Goals as goal

pub returns-in_err-smaller : goal.returns-in_err-smaller
returns-in_err-smaller c =
    let a = c.args in
    let s = a.set.now in
    let M = set_of s in
    let st = a.state.now in
    let e = both-parts (row_lines s.n M a.row.0) (state_lines s.n st) (state-parts s.n M (too_large s.m a.row.0) st) c.row_fault.ensures.value c.state_fault.ensures c.smaller.ensures in
    let h : c.from_residual.result ≡ Err c.in_err-smaller.field-0.0 = search rules in
    record {
      answer = h ∙ refusing _ _ e c.in_err-smaller.was _;
      state = kept _ _ e c.in_err-smaller.was _ _;
    }

pub act_on-requires-clause-r_lt_m : goal.act_on-requires-clause-r_lt_m
act_on-requires-clause-r_lt_m c =
    let p = both-ok c.row_fault.result c.state_fault.result (sym c.smaller.ensures ∙ c.in_ok-smaller.was) in
    let k = if-ok _ p.0 c.row_fault.ensures.readable in
    (leb-false c.args.set.now.m c.args.row.0 k.small, done_none _ (sym c.state_fault.ensures ∙ p.1))

pub returns : goal.returns
unfolding rows_held
returns c =
    let a = c.args in
    let s = a.set.now in
    let M = set_of s in
    let st = a.state.now in
    let e = both-parts (row_lines s.n M a.row.0) (state_lines s.n st) (state-parts s.n M (too_large s.m a.row.0) st) c.row_fault.ensures.value c.state_fault.ensures c.smaller.ensures in
    let q = c.act_on.ensures in
    record {
      answer = ap (λ (k : ℕ). Ok (record { 0 = k })) q.exponent ∙ passing _ _ e c.in_ok-smaller.was _;
      state = q.state ∙ made _ _ e c.in_ok-smaller.was _ _;
    }
