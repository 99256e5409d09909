-- A return for each rung: at each the tests before it have failed, and that is what the ladder of proofs/Ladder.antt asks for the number that is
-- given. Where n is a multiple of 64 no bit is spare (`state-none`); else only the last word has spare bits (`state-4`).
use Rattle.std.proofs.Common.{true, false, ap, sym, ◌∙◌}
use Rattle.encoding.specs.Refusals.{answer_or, done_or}
use Rattle.encoding.proofs.Ladder.{state-1, state-3, state-none, state-4}
use Rattle.encoding.proofs.state_fault.Goals as goal

pub returns-then-n-gt-MAX_QUBITS : goal.returns-then-n-gt-MAX_QUBITS
unfolding answer_or
returns-then-n-gt-MAX_QUBITS c = ap done_or (state-1 c.args.n c.args.s.now c.if-n-gt-MAX_QUBITS.true)

pub returns-then-s-words : goal.returns-then-s-words
unfolding answer_or
returns-then-s-words c = ap done_or (state-3 c.args.n c.args.s.now c.words.result c.if-n-gt-MAX_QUBITS.false c.words.ensures c.if-s-words.true)

pub returns-then-k-eq0 : goal.returns-then-k-eq0
unfolding answer_or
returns-then-k-eq0 c = ap done_or (state-none c.args.n c.args.s.now c.words.result c.if-n-gt-MAX_QUBITS.false c.words.ensures c.if-s-words.false c.if-k-eq0.true)

pub returns-then-above : goal.returns-then-above
unfolding answer_or
returns-then-above c =
    let a = c.args in
    ap done_or (state-4 a.n a.s.now c.words.result true c.if-n-gt-MAX_QUBITS.false c.words.ensures c.if-s-words.false c.if-k-eq0.false (sym c.if-above.true ∙ c.above.ensures))

pub returns-else-above : goal.returns-else-above
unfolding answer_or
returns-else-above c =
    let a = c.args in
    ap done_or (state-4 a.n a.s.now c.words.result false c.if-n-gt-MAX_QUBITS.false c.words.ensures c.if-s-words.false c.if-k-eq0.false (sym c.if-above.false ∙ c.above.ensures))
