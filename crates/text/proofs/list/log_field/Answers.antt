use Rattle.text.proofs.Kit.{sym, ◌∙◌}
use Rattle.text.specs.Numbers.{number}
use Rattle.text.specs.Lists.{items_of, log}
use Rattle.text.proofs.Taking.{log_empty, log_items, behind_empty, behind_space}
use Rattle.text.proofs.list.log_field.Goals as goal

pub returns-then-dash : goal.returns-then-dash
returns-then-dash c =
    let d = sym c.dash.ensures ∙ c.if-dash.true in
    behind_empty (log (number 10 65535)) c.in-Some.ensures _ d (log_empty (number 10 65535) _ _ d)

pub returns : goal.returns
returns c =
    let d = sym c.dash.ensures ∙ c.if-dash.false in
    let pairs = c.colon.result in
    behind_space (log (number 10 65535)) c.in-Some.ensures _
    (items_of pairs pairs (number 10 65535))
    (log_items (number 10 65535) _ _ d c.colon.ensures)
    _ _ c.items.ensures
