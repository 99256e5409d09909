-- RULES 14, "Gates", and 9.4: the tests of a gate, and what the call answers and leaves. M is a set in memory and n its number of qubits; a refusal
-- leaves it as it was. Assumes nothing.
use Rattle.std.specs.Prelude.{◌≡◌, Bool, false, ◌||◌, List, [], ◌∷◌, ◌++◌, ℕ, eqb, Result}
use Rattle.encoding.specs.Set.{Mem, count, rows_of, lay}
use Rattle.encoding.specs.Refusals.{set_lines, too_large, done_or, left_or}
use Rattle.encoding.specs.declared.Refusal.{Refusal}
use Rattle.encoding.specs.Ranks.{TableLine, line, by_rank}
use Rattle.gates.specs.Gates.{conj_rows}
use Rattle.gates.specs.declared.Gate.{Gate}
use Rattle.gates.specs.declared.Gate.TheVariants as gate

-- 6: a qubit of n or above
abbrev pub large_qubit : ℕ → Gate → Bool
large_qubit n (gate.H q) = too_large n q.0
large_qubit n (gate.S q) = too_large n q.0
large_qubit n (gate.CX c t) = too_large n c.0 || too_large n t.0

-- 21, after 6: control and target are one qubit
abbrev pub one_qubit_gate : Gate → Bool
one_qubit_gate (gate.H q) = false
one_qubit_gate (gate.S q) = false
one_qubit_gate (gate.CX c t) = eqb c.0 t.0

abbrev pub gate_lines : ℕ → Gate → List TableLine
gate_lines n g = line 6 (large_qubit n g) ∷ line 21 (one_qubit_gate g) ∷ []

abbrev pub gate_fault : ℕ → Mem → Gate → ℕ
gate_fault n M g = by_rank (set_lines n M ++ gate_lines n g)

-- conj_clifford: every row of the set is conjugated by the gate
pub record Conjugates (n : ℕ) (g : Gate) (M M' : Mem) (a : Result Unit Refusal) : Type 0 where
  pub answer : a ≡ done_or (gate_fault n M g)
  pub rows : M' ≡ left_or (gate_fault n M g) M (lay n (count M) (conj_rows n g (rows_of n M)))
