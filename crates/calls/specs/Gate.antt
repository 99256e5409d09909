-- docs/CALLS.md: the gate of a line, h q, s q, or cx control target. Assumes nothing.
use Rattle.std.specs.Prelude.{cond, List, [], ◌∷◌, ℕ, drop}
use Rattle.gates.specs.declared.Gate.{Gate}
use Rattle.gates.specs.declared.Gate.TheVariants.{H, S, CX}
use Rattle.text.specs.Readers.{Got, starts, mapped}
use Rattle.text.specs.Lines.{Values, read, field, fields, marked}
use Rattle.forms.specs.Form.{any}

-- a gate of one qubit, whose number stands behind its letter, and the one of two
abbrev pub one_qubit_gate : (ℕ → Gate) → List ℕ → Got Gate
one_qubit_gate g t = mapped g (field (read any) t)

abbrev pub hadamard : ℕ → Gate
hadamard q = H (record { 0 = q })

abbrev pub turn : ℕ → Gate
turn q = S (record { 0 = q })

abbrev pub controlled : Values (any ∷ any ∷ []) → Gate
controlled v = CX (record { 0 = v.0 }) (record { 0 = v.1.0 })

abbrev pub two_qubits : List ℕ → Got Gate
two_qubits t = mapped controlled (fields (any ∷ any ∷ []) t)

abbrev pub gate : List ℕ → Got Gate
gate s = cond (starts 104 s) (one_qubit_gate hadamard (drop 1 s)) (cond (starts 115 s) (one_qubit_gate turn (drop 1 s)) (marked 99 (marked 120 two_qubits) s))
