-- Any two outcomes that the contract of `set_qubit` allows are equal. The other contracts of this crate are equations for the answer. Assumes nothing.
use mathlib.Core.Path.{◌≡◌, sym, ◌∙◌}
use mathlib.Core.List.{List}
use Prim.Native.Nat.{ℕ}
use Rattle.pauli.specs.Pauli.{Pauli}
use Rattle.encoding.specs.Set.{QubitSet}

pub set-qubit-one : {q : ℕ} {p : Pauli} {xs zs xs₁ zs₁ xs₂ zs₂ : List ℕ} → QubitSet q p xs zs xs₁ zs₁ → QubitSet q p xs zs xs₂ zs₂ → (xs₁ ≡ xs₂) × (zs₁ ≡ zs₂)
set-qubit-one c d = (c.x-words ∙ sym d.x-words, c.z-words ∙ sym d.z-words)
