-- A refusal of the set comes first, then 6, then 21, which is the order of the lines (`set-refused`, `gate-told`); what passes is a row set and different
-- qubits below n.
use Rattle.std.proofs.Common.{rules, refl, sym, ◌∙◌, ◌≡◌, Err, true, false}
use Rattle.encoding.specs.Refusals.{answer_or}
use Rattle.encoding.specs.Set.{set_of}
use Rattle.clifford.specs.Calls.{one_qubit_gate}
use Rattle.clifford.proofs.Tests.{set-refused, gate-told, gate-ready}
use Rattle.clifford.proofs.gate_fault.Goals as goal

pub returns-in_err-set_fault-clause-value : goal.returns-in_err-set_fault-clause-value
returns-in_err-set_fault-clause-value c =
    let s = c.args.set.now in
    let h : c.from_residual.result ≡ Err c.in_err-set_fault.field-0.0 = search rules in
    h ∙ set-refused s.n (set_of s) c.args.g c.set_fault.ensures.value c.in_err-set_fault.was

pub returns-then-large_qubit-clause-value : goal.returns-then-large_qubit-clause-value
unfolding answer_or
returns-then-large_qubit-clause-value c =
    let s = c.args.set.now in
    gate-told s.n (set_of s) c.args.g c.set_fault.ensures.value c.in_ok-set_fault.was true (one_qubit_gate c.args.g) (sym c.large_qubit.ensures ∙ c.if-large_qubit.true) refl

pub returns-then-one_qubit_twice-clause-value : goal.returns-then-one_qubit_twice-clause-value
unfolding answer_or
returns-then-one_qubit_twice-clause-value c =
    let s = c.args.set.now in
    gate-told s.n (set_of s) c.args.g c.set_fault.ensures.value c.in_ok-set_fault.was false true (sym c.large_qubit.ensures ∙ c.if-large_qubit.false)
    (sym c.one_qubit_twice.ensures ∙ c.if-one_qubit_twice.true)

pub returns-clause-value : goal.returns-clause-value
unfolding answer_or
returns-clause-value c =
    let s = c.args.set.now in
    gate-told s.n (set_of s) c.args.g c.set_fault.ensures.value c.in_ok-set_fault.was false false (sym c.large_qubit.ensures ∙ c.if-large_qubit.false)
    (sym c.one_qubit_twice.ensures ∙ c.if-one_qubit_twice.false)

pub returns-clause-ready : goal.returns-clause-ready
returns-clause-ready c =
    let s = c.args.set.now in
    gate-ready s.n (set_of s) c.args.g c.set_fault.ensures.value c.set_fault.ensures.valid c.in_ok-set_fault.was (sym c.large_qubit.ensures ∙ c.if-large_qubit.false)
    (sym c.one_qubit_twice.ensures ∙ c.if-one_qubit_twice.false)
