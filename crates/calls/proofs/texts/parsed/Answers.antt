use Rattle.calls.proofs.Said.{told}
use Rattle.calls.proofs.Left.{read_is}
use Rattle.calls.proofs.texts.parsed.Goals as goal

pub returns : goal.returns
returns c =
    told (read_is c.parse_elem-a.ensures) _ _ _ _ c.changed.ensures
