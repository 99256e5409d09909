use Rattle.text.proofs.Kit.{false, sym, ◌∙◌}
use Rattle.text.specs.Lists.{items_of, list}
use Rattle.text.proofs.Taking.{list_empty, list_items, behind_empty, behind_space}
use Rattle.text.proofs.list.list_field.Goals as goal

pub returns-then-dash : goal.returns-then-dash
returns-then-dash g c =
    let d = sym c.dash.ensures ∙ c.if-dash.true in
    behind_empty (list g.I.Item.reads) c.in-Some.ensures _ d (list_empty g.I.Item.reads _ _ d)

pub returns : goal.returns
returns g c =
    let d = sym c.dash.ensures ∙ c.if-dash.false in
    behind_space (list g.I.Item.reads) c.in-Some.ensures _ (items_of false false g.I.Item.reads) (list_items g.I.Item.reads _ _ d) _ _ c.items.ensures
