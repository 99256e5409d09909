use Rattle.calls.proofs.Said.{told, matrix-is}
use Rattle.calls.proofs.rows.into_matrix.Goals as goal

pub returns : goal.returns
returns c =
    told (matrix-is c.compatibility_matrix-a.ensures) _ _ _ _ c.matrix.ensures
