-- RULES 3.1, the limits: n qubits, 0 to 4,096; m rows, 0 to 4,096. The code's MAX_QUBITS, MAX_ROWS and MAX_COLUMNS follow them. Assumes nothing.
use Rattle.std.specs.Prelude.{ℕ, ◌+◌, ◌/◌}

abbrev pub max_qubits : ℕ
max_qubits = 4096

abbrev pub max_rows : ℕ
max_rows = 4096

-- the words of a row: n/64 rounded up
abbrev pub words_of : ℕ → ℕ
words_of n = (n + 63) / 64

-- the words of the longest row
abbrev pub max_words : ℕ
max_words = words_of max_qubits
