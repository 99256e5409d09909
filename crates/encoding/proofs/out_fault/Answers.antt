-- A return for each rung: at each the tests before it have failed, and that is what the ladder of proofs/Ladder.antt asks for the number that is given.
use Rattle.std.proofs.Common.{true, false, ap, sym, ◌∙◌}
use Rattle.encoding.specs.Set.{set_of}
use Rattle.encoding.specs.Refusals.{answer_or, done_or}
use Rattle.encoding.proofs.Ladder.{out-1, out-2, out-3}
use Rattle.encoding.proofs.out_fault.Goals as goal

pub returns-then-set-gt-MAX_QUBITS : goal.returns-then-set-gt-MAX_QUBITS
unfolding answer_or
returns-then-set-gt-MAX_QUBITS c =
    let s = c.args.set.now in
    ap done_or (out-1 s.n (set_of s) c.if-set-gt-MAX_QUBITS.true)

pub returns-then-set-gt-MAX_ROWS : goal.returns-then-set-gt-MAX_ROWS
unfolding answer_or
returns-then-set-gt-MAX_ROWS c =
    let s = c.args.set.now in
    ap done_or (out-2 s.n (set_of s) c.if-set-gt-MAX_QUBITS.false c.if-set-gt-MAX_ROWS.true)

pub returns-then-bad_lengths : goal.returns-then-bad_lengths
unfolding answer_or
returns-then-bad_lengths c =
    let s = c.args.set.now in
    ap done_or (out-3 s.n (set_of s) c.words.result true c.if-set-gt-MAX_QUBITS.false c.if-set-gt-MAX_ROWS.false c.words.ensures (sym c.if-bad_lengths.true ∙ c.bad_lengths.ensures))

pub returns : goal.returns
unfolding answer_or
returns c =
    let s = c.args.set.now in
    ap done_or (out-3 s.n (set_of s) c.words.result false c.if-set-gt-MAX_QUBITS.false c.if-set-gt-MAX_ROWS.false c.words.ensures (sym c.if-bad_lengths.false ∙ c.bad_lengths.ensures))
