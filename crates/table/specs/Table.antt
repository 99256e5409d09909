-- RULES 4.19, a phase by look-ups: two qubits at a time, as many look-ups as n qubits need, one padding qubit among them where n is odd. Assumes
-- nothing.
use Rattle.std.specs.Prelude.{List, ℕ, ◌+◌, ◌/◌, ◌%◌}
use Rattle.pauli.specs.Pauli.{phases}
use Rattle.encoding.specs.Words.{qubits}

-- n/2 rounded up
abbrev pub lookups : ℕ → ℕ
lookups n = (n + 1) / 2

-- what k look-ups sum: the exponents of the first 2 k qubits
abbrev pub summed : ℕ → List ℕ → List ℕ → List ℕ → List ℕ → ℕ
summed k lx lz rx rz = phases (qubits (k + k) lx lz) (qubits (k + k) rx rz)

abbrev pub table_phase : ℕ → List ℕ → List ℕ → List ℕ → List ℕ → ℕ
table_phase n lx lz rx rz = summed (lookups n) lx lz rx rz % 4
