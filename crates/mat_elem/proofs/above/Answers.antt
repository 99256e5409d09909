use Rattle.std.proofs.Common.{sym, arith}
use Rattle.mat_elem.proofs.Bits.{set-above, set_past}
use Rattle.mat_elem.proofs.above.Goals as goal

pub returns-then-n-ge-MAX_QUBITS : goal.returns-then-n-ge-MAX_QUBITS
returns-then-n-ge-MAX_QUBITS c = set_past c.args.n c.args.w c.if-n-ge-MAX_QUBITS.true

pub returns : goal.returns
returns c =
    sym (set-above c.args.n c.top_word.result (omega arith) c.top_word.ensures c.args.w c.ranges.w.fits)
