-- The fields are read to the line's end by the readers' contracts: `last-none` where one is missing, `last-some` where all are there.
-- What the call answers and leaves is then the text of the definition.
use Rattle.calls.specs.Limits.{most_words}
use Rattle.calls.proofs.Kit.{ap, drop, [], ◌∷◌}
use Rattle.calls.proofs.Said.{told, seen-none, seen, last-none, last-some, then-none, then-closes, said-as, single}
use native.Mathlib.Nat.{sub-zero}
use Rattle.forms.specs.Form.{any}
use Rattle.text.specs.Lines.{words, read, field, fields}
use Rattle.text.specs.Lines.{last as last-of}
use Rattle.forms.specs.Form.{then}
use Rattle.calls.specs.Answer.{act_in}
use Rattle.calls.proofs.rows.act.Goals as goal

pub returns-in_default : goal.returns-in_default
unfolding act_in
returns-in_default c =
    let s = c.args.s.now in
    let f = field (read any) in
    let g = fields ((words most_words) ∷ []) in
    told (said-as (then f g) _ s c.args.at (ap last-of (then-none f g s c.args.at (seen-none f _ _ s c.args.at _ c.number.ensures c.in_default.is)))) _ _ _ _ c.bad.ensures

pub returns-in_default-last : goal.returns-in_default-last
unfolding act_in
returns-in_default-last c =
    let s = c.args.s.now in
    let f = field (read any) in
    let g = fields ((words most_words) ∷ []) in
    let h = field (read (words most_words)) in
    let a = seen f _ _ s c.args.at _ c.number.ensures c.in-Some.is in
    told (said-as (then f g) _ s c.args.at (then-closes f g s c.args.at _ a.is (single (words most_words) (drop c.in-Some.at s) (last-none h _ _ s _ _ c.words.ensures c.last.ensures c.in_default-last.is)))) _ _ _ _ c.bad-in_default-last.ensures

pub returns : goal.returns
unfolding act_in
returns c =
    let s = c.args.s.now in
    let f = field (read any) in
    let g = fields ((words most_words) ∷ []) in
    let h = field (read (words most_words)) in
    let a = seen f _ _ s c.args.at _ c.number.ensures c.in-Some.is in
    told (said-as (then f g) _ s c.args.at (then-closes f g s c.args.at _ a.is (single (words most_words) (drop c.in-Some.at s) (last-some h _ _ s _ _ c.words.ensures c.last.ensures c.in-Some-last.is)))) _ _ _ _ (rw (sub-zero c.in-Some-last.w) at c.on_state.ensures)
