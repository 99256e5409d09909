-- The fields are read to the line's end by the readers' contracts: `last-none` where one is missing, `last-some` where all are there.
-- What the call answers and leaves is then the text of the definition.
use Rattle.calls.specs.Limits.{most_text}
use Rattle.calls.proofs.Kit.{ap, drop, [], ◌∷◌}
use Rattle.calls.proofs.Said.{told, seen-none, seen, last-none, last-some, then-none, then-closes, said-as, single, last-fits}
use native.Mathlib.Nat.{sub-zero}
use lib.Seq.{length-take-le}
use Rattle.forms.specs.Form.{any}
use Rattle.text.specs.Lines.{one, read, field, fields}
use Rattle.text.specs.Lines.{last as last-of}
use Rattle.forms.specs.Form.{then}
use Rattle.calls.specs.Answer.{write_in}
use Rattle.calls.proofs.texts.write.Goals as goal

pub returns-in_default : goal.returns-in_default
unfolding write_in
returns-in_default c =
    let s = c.args.s.now in
    let f = field (read any) in
    let g = fields ((one most_text) ∷ []) in
    told (said-as (then f g) _ s c.args.at (ap last-of (then-none f g s c.args.at (seen-none f _ _ s c.args.at _ c.number.ensures c.in_default.is)))) _ _ _ _ c.bad.ensures

pub returns-in_default-last : goal.returns-in_default-last
unfolding write_in
returns-in_default-last c =
    let s = c.args.s.now in
    let f = field (read any) in
    let g = fields ((one most_text) ∷ []) in
    let h = field (read (one most_text)) in
    let a = seen f _ _ s c.args.at _ c.number.ensures c.in-Some.is in
    told (said-as (then f g) _ s c.args.at (then-closes f g s c.args.at _ a.is (single (one most_text) (drop c.in-Some.at s) (last-none h _ _ s _ _ c.number-2.ensures c.last.ensures c.in_default-last.is)))) _ _ _ _ c.bad-in_default-last.ensures

pub returns : goal.returns
unfolding write_in
returns c =
    let s = c.args.s.now in
    let f = field (read any) in
    let g = fields ((one most_text) ∷ []) in
    let h = field (read (one most_text)) in
    let a = seen f _ _ s c.args.at _ c.number.ensures c.in-Some.is in
    told (said-as (then f g) _ s c.args.at (then-closes f g s c.args.at _ a.is (single (one most_text) (drop c.in-Some.at s) (last-some h _ _ s _ _ c.number-2.ensures c.last.ensures c.in-Some-last.is)))) _ _ _ _ (rw (sub-zero c.in-Some-last.e, length-take-le c.in-Some-last.e _ (last-fits h _ _ s _ _ c.number-2.ensures c.last.ensures c.in-Some-last.is)) at c.into_bytes.ensures)
