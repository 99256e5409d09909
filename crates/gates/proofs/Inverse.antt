-- The gate times what stands on the other side is its factor times the identity: the theorem of the rows, for the row of n times I. Assumes nothing.
use mathlib.Core.Path.{◌≡◌, refl, sym, ap, ap₂, ◌∙◌}
use mathlib.Core.Bool.{Bool, cond}
use mathlib.Core.List.{List, [], ◌∷◌}
use Prim.Native.Nat.{ℕ, zero, suc}
use native.Mathlib.Omega.{arith}
use native.Mathlib.Nat.{suc_inj}
use lib.ListN.{length, get_or}
use Rattle.pauli.specs.Gauss.{Gauss, ◌⊗◌, g1, ipow}
use Rattle.pauli.specs.Matrix.{Matrix, matrix, times, scaled, Same, on_qubits, matrix_of, basis}
use Rattle.pauli.specs.Pauli.{Pauli, act, act_phase}
use Rattle.pauli.specs.declared.PauliMatrix.TheVariants.{I}
use Rattle.pauli.specs.Row.{identity}
use Rattle.pauli.proofs.GaussRing.{g1-⊗, ⊗-comm}
use Rattle.pauli.proofs.OnQubits.{length-on}
use Rattle.pauli.proofs.Vectors.{sum-basis, column-is}
use Rattle.gates.specs.Places.{at, put, Places}
use Rattle.gates.specs.Gates.{Gate, H, S, CX, touched, image, turns, conj, sign}
use Rattle.gates.specs.Matrices.{factor, gate_matrix, inverse_matrix}
use Rattle.gates.proofs.Spots.{put-at}
use Rattle.gates.proofs.Lifted.{sum-on}
use Rattle.gates.proofs.Conjugate.{conjugate}

-- ---- n times I is the identity

acts-not : (n : ℕ) (s : List Bool) → length s ≡ n → (act (on_qubits n []) s ≡ s) × (act_phase (on_qubits n []) s ≡ 0)
unfolding on_qubits
acts-not zero [] e = (refl, refl)
acts-not zero (b ∷ s) e = absurd (omega arith)
acts-not (suc n) [] e = absurd (omega arith)
acts-not (suc n) (b ∷ s) e = let k = acts-not n s (suc_inj e) in (ap (λ (l : List Bool). b ∷ l) k.0, omega (arith, k.1))

identity-right : (n : ℕ) (A : Matrix) (r s : List Bool) → length s ≡ n → times n A (matrix (on_qubits n [])) r s ≡ A r s
identity-right n A r s e =
    sum-on n (λ t. A r t ⊗ matrix (on_qubits n []) t s) (λ t. A r t ⊗ basis s t)
    (λ t k. ap (λ (x : Gauss). A r t ⊗ x)
    (column-is (on_qubits n []) t s (k ∙ sym (length-on n [])) (e ∙ sym (length-on n []))
    ∙ ap₂ (λ (j : ℕ) (l : List Bool). ipow j ⊗ basis l t) (acts-not n s e).1 (acts-not n s e).0
    ∙ g1-⊗ (basis s t)))
    ∙ sum-basis n (A r) s e

-- ---- a gate makes nothing of it

none : (n k : ℕ) → get_or (on_qubits n []) k I ≡ I
unfolding on_qubits
none zero k = refl
none (suc n) zero = refl
none (suc n) (suc k) = none n k

image-none : (n : ℕ) (g : Gate) → image g (at I (on_qubits n []) (touched g)) ≡ at I (on_qubits n []) (touched g)
image-none n (H k) = ap (λ (p : Pauli). image (H k) (p ∷ [])) (none n k.0) ∙ ap (λ (p : Pauli). p ∷ []) (sym (none n k.0))
image-none n (S k) = ap (λ (p : Pauli). image (S k) (p ∷ [])) (none n k.0) ∙ ap (λ (p : Pauli). p ∷ []) (sym (none n k.0))
image-none n (CX c t) =
    ap₂ (λ (p q : Pauli). image (CX c t) (p ∷ q ∷ [])) (none n c.0) (none n t.0) ∙ ap₂ (λ (p q : Pauli). p ∷ q ∷ []) (sym (none n c.0)) (sym (none n t.0))

sign-none : (n : ℕ) (g : Gate) → sign g (on_qubits n []) ≡ 0
sign-none n (H k) = ap (λ (p : Pauli). cond (turns (H k) (p ∷ [])) 2 0) (none n k.0)
sign-none n (S k) = ap (λ (p : Pauli). cond (turns (S k) (p ∷ [])) 2 0) (none n k.0)
sign-none n (CX c t) = ap₂ (λ (p q : Pauli). cond (turns (CX c t) (p ∷ q ∷ [])) 2 0) (none n c.0) (none n t.0)

conj-none : (n : ℕ) (g : Gate) → conj g (on_qubits n []) ≡ on_qubits n []
conj-none n g = ap (put (on_qubits n []) (touched g)) (image-none n g) ∙ put-at I (on_qubits n []) (touched g)

pub inverse-is : (n : ℕ) (g : Gate) → Places n (touched g) → Same n (times n (gate_matrix g) (inverse_matrix g)) (scaled (factor g) (matrix_of n identity))
inverse-is n g h r s er es =
    let J = matrix (on_qubits n []) in
    sum-on n (λ t. gate_matrix g r t ⊗ inverse_matrix g t s) (λ t. times n (gate_matrix g) J r t ⊗ inverse_matrix g t s)
    (λ t k. ap (λ (x : Gauss). x ⊗ inverse_matrix g t s) (sym (identity-right n (gate_matrix g) r t k)))
    ∙ conjugate n g (on_qubits n []) r s h (length-on n []) er es
    ∙ ap₂ (λ (k : ℕ) (l : List Pauli). (factor g ⊗ ipow k) ⊗ matrix l r s) (sign-none n g) (conj-none n g)
    ∙ ap (λ (x : Gauss). x ⊗ J r s) (⊗-comm (factor g) g1 ∙ g1-⊗ (factor g))
