-- The limits come first (`limit_1`, `limit_2`); within them the smaller number of what was to be reduced and of what is claimed is the first that
-- fits, since a log in a file is of whole entries (`run_number`).
use Rattle.pwl.proofs.Runs.{words_are, phases_are, claim_fits}
use Rattle.pwl.proofs.reading.run_fault.Goals as goal

pub set_fault-claim-requires : goal.set_fault-claim-requires
set_fault-claim-requires c =
    let a = c.args in
    let e = c.requires.0 in
    (c.if-f-gt-MAX_QUBITS.false, c.if-f-gt-MAX_ROWS.false, words_are a.f a.at e, phases_are a.f a.at e, claim_fits a.f a.at e c.requires.1)
