-- `table::look` meets its contract. Assumes nothing.
use mathlib.Core.Path.{◌∙◌}
use Rattle.table.proofs.Entries.{place-rule}
use Rattle.table.proofs.look.Goals as goal

pub returns : goal.returns
returns c =
    let a = c.args in
    c.entry.ensures ∙ place-rule a.lx a.lz a.rx a.rz c.place.result c.place.ensures
