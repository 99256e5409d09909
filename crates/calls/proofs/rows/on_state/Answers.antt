use Rattle.calls.proofs.Said.{told, acted-is}
use Rattle.calls.proofs.rows.on_state.Goals as goal

pub returns : goal.returns
returns c =
    told (acted-is c.imul_state-a.ensures) _ _ _ _ c.acted.ensures
