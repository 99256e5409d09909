-- The fields are read to the line's end by the readers' contracts: `bad_told` where one is missing, `said-good` where all are there.
-- What the call answers and leaves is then the text of the definition.
use Rattle.calls.proofs.Kit.{◌∙◌, [], ◌∷◌}
use Rattle.calls.proofs.Said.{told, bad_told, said-good, product_is}
use Rattle.forms.specs.Form.{any}
use Rattle.text.specs.Lines.{fields}
use Rattle.calls.specs.Answer.{imul}
use Rattle.calls.proofs.rows.imul.Goals as goal

pub returns-in_default : goal.returns-in_default
unfolding imul
returns-in_default c =
    let s = c.args.s.now in
    let f = fields (any ∷ any ∷ []) in
    bad_told f _ _ _ s c.args.at _ c.read_two.ensures c.last.ensures c.in_default.is _ _ _ _ c.bad.ensures

pub returns : goal.returns
unfolding imul
returns c =
    let s = c.args.s.now in
    let f = fields (any ∷ any ∷ []) in
    told (said-good f _ _ _ s c.args.at _ c.read_two.ensures c.last.ensures c.in-Some.is ∙ product_is c.imul-c.ensures) _ _ _ _ c.product.ensures
