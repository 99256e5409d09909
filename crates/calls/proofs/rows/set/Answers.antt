-- The fields are read to the line's end by the readers' contracts: `last-none` where one is missing, `last-some` where all are there.
-- What the call answers and leaves is then the text of the definition.
use Rattle.calls.proofs.Kit.{◌∙◌, ap, [], ◌∷◌}
use Rattle.calls.proofs.Said.{told, seen-none, seen, last-none, last-some, then-none, then-closes, said-as, set_is}
use Rattle.forms.specs.Form.{any, letter}
use Rattle.text.specs.Lines.{field, fields}
use Rattle.text.specs.Lines.{last as last-of}
use Rattle.forms.specs.Form.{then}
use Rattle.calls.specs.Answer.{set}
use Rattle.calls.proofs.rows.set.Goals as goal

pub returns-in_default : goal.returns-in_default
unfolding set
returns-in_default c =
    let s = c.args.s.now in
    let f = fields (any ∷ any ∷ []) in
    let g = field letter in
    told (said-as (then f g) _ s c.args.at (ap last-of (then-none f g s c.args.at (seen-none f _ _ s c.args.at _ c.read_two.ensures c.in_default.is)))) _ _ _ _ c.bad.ensures

pub returns-in_default-last : goal.returns-in_default-last
unfolding set
returns-in_default-last c =
    let s = c.args.s.now in
    let f = fields (any ∷ any ∷ []) in
    let g = field letter in
    let h = field letter in
    let a = seen f _ _ s c.args.at _ c.read_two.ensures c.in-Some.is in
    told (said-as (then f g) _ s c.args.at (then-closes f g s c.args.at _ a.is (last-none h _ _ s _ _ c.read_letter.ensures c.last.ensures c.in_default-last.is))) _ _ _ _ c.bad-in_default-last.ensures

pub returns : goal.returns
unfolding set
returns c =
    let s = c.args.s.now in
    let f = fields (any ∷ any ∷ []) in
    let g = field letter in
    let h = field letter in
    let a = seen f _ _ s c.args.at _ c.read_two.ensures c.in-Some.is in
    told (said-as (then f g) _ s c.args.at (then-closes f g s c.args.at _ a.is (last-some h _ _ s _ _ c.read_letter.ensures c.last.ensures c.in-Some-last.is)) ∙ set_is c.set_qubit-a.ensures) _ _ _ _ c.changed.ensures
