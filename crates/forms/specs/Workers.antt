-- What inner functions leave.
use Rattle.std.specs.Prelude.{◌≡◌, List, ℕ, Option, Some, None}
use Rattle.pauli.specs.declared.PauliMatrix.{PauliMatrix}
use Rattle.text.specs.Readers.{none, got}
use Rattle.forms.specs.Form.{pauli_of}

-- a byte is a Pauli's letter or not
abbrev pub Names : ℕ → Option PauliMatrix → Type 0
Names c None = (t : List ℕ) → pauli_of c t ≡ none
Names c (Some l) = (t : List ℕ) → pauli_of c t ≡ got l t
