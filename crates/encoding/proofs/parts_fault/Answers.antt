-- A return for each rung: at each the tests before it have failed, and that is what the ladder of proofs/Ladder.antt asks for the number that is
-- given. Bits are looked at only once the lengths fit, as `bad_bits` requires. Where no number is given, the words are those of rows (`valid-of`).
use Rattle.std.proofs.Common.{ap, sym, ◌∙◌}
use Rattle.encoding.specs.Set.{mem_of}
use Rattle.encoding.specs.Refusals.{answer_or, done_or}
use Rattle.encoding.proofs.Memory.{valid-of}
use Rattle.encoding.proofs.Faults.{set-lengths}
use Rattle.encoding.proofs.Ladder.{stop-1, stop-2, stop-3, stop-4, stop-5, go_on}
use Rattle.encoding.proofs.parts_fault.Goals as goal

pub returns-then-n-gt-MAX_QUBITS-clause-value : goal.returns-then-n-gt-MAX_QUBITS-clause-value
unfolding answer_or
returns-then-n-gt-MAX_QUBITS-clause-value c =
    let a = c.args in
    ap done_or (stop-1 a.n (mem_of a.m a.x.now a.z.now a.phases.now) c.if-n-gt-MAX_QUBITS.true)

pub returns-then-m-gt-MAX_ROWS-clause-value : goal.returns-then-m-gt-MAX_ROWS-clause-value
unfolding answer_or
returns-then-m-gt-MAX_ROWS-clause-value c =
    let a = c.args in
    ap done_or (stop-2 a.n (mem_of a.m a.x.now a.z.now a.phases.now) c.if-n-gt-MAX_QUBITS.false c.if-m-gt-MAX_ROWS.true)

pub returns-then-bad_lengths-clause-value : goal.returns-then-bad_lengths-clause-value
unfolding answer_or
returns-then-bad_lengths-clause-value c =
    let a = c.args in
    ap done_or (stop-3 a.n (mem_of a.m a.x.now a.z.now a.phases.now) c.words-w.result c.if-n-gt-MAX_QUBITS.false c.if-m-gt-MAX_ROWS.false c.words-w.ensures (sym c.bad_lengths.ensures ∙ c.if-bad_lengths.true))

pub bad_bits-requires : goal.bad_bits-requires
bad_bits-requires c =
    let l = set-lengths c.words-w.result (mem_of c.args.m c.args.x.now c.args.z.now c.args.phases.now) (sym c.bad_lengths.ensures ∙ c.if-bad_lengths.false) in
    (c.words-w.ensures, l.0, l.1)

pub returns-then-bad_bits-clause-value : goal.returns-then-bad_bits-clause-value
unfolding answer_or
returns-then-bad_bits-clause-value c =
    let a = c.args in
    ap done_or (stop-4 a.n (mem_of a.m a.x.now a.z.now a.phases.now) c.words-w.result c.if-n-gt-MAX_QUBITS.false c.if-m-gt-MAX_ROWS.false c.words-w.ensures
    (sym c.bad_lengths.ensures ∙ c.if-bad_lengths.false) (sym c.if-bad_bits.true ∙ c.bad_bits.ensures))

pub returns-then-bad_phases-clause-value : goal.returns-then-bad_phases-clause-value
unfolding answer_or
returns-then-bad_phases-clause-value c =
    let a = c.args in
    ap done_or (stop-5 a.n (mem_of a.m a.x.now a.z.now a.phases.now) c.words-w.result c.if-n-gt-MAX_QUBITS.false c.if-m-gt-MAX_ROWS.false c.words-w.ensures
    (sym c.bad_lengths.ensures ∙ c.if-bad_lengths.false) (sym c.if-bad_bits.false ∙ c.bad_bits.ensures) (sym c.if-bad_phases.true ∙ c.bad_phases.ensures))

pub returns-clause-value : goal.returns-clause-value
unfolding answer_or
returns-clause-value c =
    let a = c.args in
    ap done_or (go_on a.n (mem_of a.m a.x.now a.z.now a.phases.now) c.words-w.result c.if-n-gt-MAX_QUBITS.false c.if-m-gt-MAX_ROWS.false c.words-w.ensures
    (sym c.bad_lengths.ensures ∙ c.if-bad_lengths.false) (sym c.if-bad_bits.false ∙ c.bad_bits.ensures) (sym c.if-bad_phases.false ∙ c.bad_phases.ensures))

pub returns-clause-valid : goal.returns-clause-valid
unfolding answer_or
returns-clause-valid c =
    let a = c.args in
    valid-of a.n (mem_of a.m a.x.now a.z.now a.phases.now) c.type_inv.x c.type_inv.z c.type_inv.phases
    (sym (go_on a.n (mem_of a.m a.x.now a.z.now a.phases.now) c.words-w.result c.if-n-gt-MAX_QUBITS.false c.if-m-gt-MAX_ROWS.false c.words-w.ensures
    (sym c.bad_lengths.ensures ∙ c.if-bad_lengths.false) (sym c.if-bad_bits.false ∙ c.bad_bits.ensures) (sym c.if-bad_phases.false ∙ c.bad_phases.ensures)))
