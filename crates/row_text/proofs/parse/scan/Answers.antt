-- A piece adds its Pauli, and where none may come next no row has the text (Scanning.scan-stops).
use Rattle.row_text.proofs.Kit.{arith}
use Rattle.row_text.proofs.InRow.{scan-none, scan-one, scan-yes, scan-no}
use Rattle.row_text.proofs.Scanning.{goes_on}
use Rattle.row_text.proofs.parse.scan.Goals as goal

pub loop-at-init : goal.loop-at-init
loop-at-init c = scan-none _ _ c.requires.holding

pub returns-in_default : goal.returns-in_default
returns-in_default c = scan-no c.loop-at.invariant c.loop-at-test.true c.in_default.ensures

pub loop-at-smaller : goal.loop-at-smaller
loop-at-smaller c =
    let r = c.in-Some.ensures in
    omega (arith, c.loop-at-test.true, r.1, goes_on _ _ _ c.loop-at-test.true r.1 r.0)

pub loop-at-preserved : goal.loop-at-preserved
loop-at-preserved c =
    let r = c.in-Some.ensures in
    scan-one c.requires.n_le_max_qubits c.loop-at.invariant c.loop-at-test.true r.0 r.1 c.set_pauli.ensures

pub returns : goal.returns
returns c = scan-yes c.loop-at.invariant (omega arith)
