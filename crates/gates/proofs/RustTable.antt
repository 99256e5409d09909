-- The table of the Rust (`conj_clifford` in qubit/traits.rs), line by line: the same images and signs. Assumes nothing.
use mathlib.Core.Path.{◌≡◌, refl}
use mathlib.Core.Bool.{Bool, true, false}
use mathlib.Core.List.{List, [], ◌∷◌}
use Rattle.pauli.specs.declared.PauliMatrix.TheVariants.{I, X, Y, Z}
use Rattle.pauli.specs.Pauli.{Pauli}
use Rattle.pauli.specs.declared.QubitNumber.{QubitNumber}
use Rattle.gates.specs.Gates.{Gate, H, S, CX, image, turns}

-- a line: what the gate finds, what it leaves, whether the sign turns
abbrev Line : Gate → List Pauli → List Pauli → Bool → Type 0
Line g ps qs b = (image g ps ≡ qs) × (turns g ps ≡ b)

pub rust-h : (q : QubitNumber)
    → Line (H q) (I ∷ []) (I ∷ []) false
    × Line (H q) (X ∷ []) (Z ∷ []) false
    × Line (H q) (Y ∷ []) (Y ∷ []) true
    × Line (H q) (Z ∷ []) (X ∷ []) false
rust-h q = ((refl, refl), (refl, refl), (refl, refl), (refl, refl))

pub rust-s : (q : QubitNumber)
    → Line (S q) (I ∷ []) (I ∷ []) false
    × Line (S q) (X ∷ []) (Y ∷ []) false
    × Line (S q) (Y ∷ []) (X ∷ []) true
    × Line (S q) (Z ∷ []) (Z ∷ []) false
rust-s q = ((refl, refl), (refl, refl), (refl, refl), (refl, refl))

pub rust-cx : (c t : QubitNumber)
    → Line (CX c t) (I ∷ I ∷ []) (I ∷ I ∷ []) false
    × Line (CX c t) (I ∷ X ∷ []) (I ∷ X ∷ []) false
    × Line (CX c t) (I ∷ Y ∷ []) (Z ∷ Y ∷ []) false
    × Line (CX c t) (I ∷ Z ∷ []) (Z ∷ Z ∷ []) false
    × Line (CX c t) (X ∷ I ∷ []) (X ∷ X ∷ []) false
    × Line (CX c t) (X ∷ X ∷ []) (X ∷ I ∷ []) false
    × Line (CX c t) (X ∷ Y ∷ []) (Y ∷ Z ∷ []) false
    × Line (CX c t) (X ∷ Z ∷ []) (Y ∷ Y ∷ []) true
    × Line (CX c t) (Y ∷ I ∷ []) (Y ∷ X ∷ []) false
    × Line (CX c t) (Y ∷ X ∷ []) (Y ∷ I ∷ []) false
    × Line (CX c t) (Y ∷ Y ∷ []) (X ∷ Z ∷ []) true
    × Line (CX c t) (Y ∷ Z ∷ []) (X ∷ Y ∷ []) false
    × Line (CX c t) (Z ∷ I ∷ []) (Z ∷ I ∷ []) false
    × Line (CX c t) (Z ∷ X ∷ []) (Z ∷ X ∷ []) false
    × Line (CX c t) (Z ∷ Y ∷ []) (I ∷ Y ∷ []) false
    × Line (CX c t) (Z ∷ Z ∷ []) (I ∷ Z ∷ []) false
rust-cx c t =
    ((refl, refl), (refl, refl), (refl, refl), (refl, refl), (refl, refl), (refl, refl), (refl, refl), (refl, refl), (refl, refl), (refl, refl), (refl, refl), (refl, refl), (refl, refl), (refl, refl), (refl, refl), (refl, refl))
