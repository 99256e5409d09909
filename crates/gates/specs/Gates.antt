-- RULES 14.1 to 14.4: the gates, and what they make of a row, by the rules of Aaronson and Gottesman (Physical Review A 70, 052328): bits x and z at
-- the touched qubits, and whether the sign turns. The matrices stand in specs/Matrices.antt. Assumes nothing.
use Rattle.std.specs.Prelude.{Bool, cond, not, ◌&&◌, List, [], ◌∷◌, ℕ, zero, suc, ◌+◌, ◌%◌, get_or}
use Rattle.pauli.specs.Matrix.{on_qubits}
use Rattle.pauli.specs.Pauli.{Pauli, of_bits, has_x, has_z}
use Rattle.pauli.specs.declared.PauliMatrix.TheVariants.{I}
use Rattle.pauli.specs.Row.{Row}
use Rattle.gates.specs.Places.{at, put}
pub use Rattle.gates.specs.declared.Gate.{Gate}
pub use Rattle.gates.specs.declared.Gate.TheVariants.{H, S, CX}

-- the qubits that a gate touches, the control before the target
abbrev pub touched : Gate → List ℕ
touched (H q) = q.0 ∷ []
touched (S q) = q.0 ∷ []
touched (CX c t) = c.0 ∷ t.0 ∷ []

-- the exclusive or of two bits
abbrev pub differ : Bool → Bool → Bool
differ a b = cond a (not b) b

-- ---- on the touched qubits: p is the first of them, for controlled-X the control, and q the second, the target

-- H exchanges x and z. S adds x to z. Controlled-X adds the control's x to the target's, and the target's z to the control's.
abbrev pub image : Gate → List Pauli → List Pauli
image (H k) ps = let p = get_or ps 0 I in of_bits (has_z p) (has_x p) ∷ []
image (S k) ps = let p = get_or ps 0 I in of_bits (has_x p) (differ (has_z p) (has_x p)) ∷ []
image (CX c t) ps =
    let p = get_or ps 0 I in
    let q = get_or ps 1 I in
    of_bits (has_x p) (differ (has_z p) (has_z q)) ∷ of_bits (differ (has_x q) (has_x p)) (has_z q) ∷ []

-- The sign turns: for H and S where x and z are 1, for controlled-X where the control's x and the target's z are 1 and its x is the control's z.
abbrev pub turns : Gate → List Pauli → Bool
turns (H k) ps = let p = get_or ps 0 I in has_x p && has_z p
turns (S k) ps = let p = get_or ps 0 I in has_x p && has_z p
turns (CX c t) ps =
    let p = get_or ps 0 I in
    let q = get_or ps 1 I in
    has_x p && (has_z q && not (differ (has_x q) (has_z p)))

-- ---- on a row of n qubits

-- the Paulis, those at the touched qubits conjugated
abbrev pub conj : Gate → List Pauli → List Pauli
conj g ps = put ps (touched g) (image g (at I ps (touched g)))

-- the exponent that it brings: 2 where the sign turns
abbrev pub sign : Gate → List Pauli → ℕ
sign g ps = cond (turns g (at I ps (touched g))) 2 0

unfoldable pub conj_row : ℕ → Gate → Row → Row
conj_row n g r = let ps = on_qubits n r.ps in record { ps = conj g ps; p = (r.p + sign g ps) % 4 }

-- every row of a set
abbrev pub conj_rows : ℕ → Gate → (ℕ → Row) → ℕ → Row
conj_rows n g σ k = conj_row n g (σ k)

-- ---- a gate several times

-- how often a gate has to be done to give back every row: H and controlled-X twice, S four times
abbrev pub order : Gate → ℕ
order (H q) = 2
order (S q) = 4
order (CX c t) = 2

-- f, done k times
unfoldable pub repeat : {A : Type 0} → ℕ → (A → A) → A → A
repeat zero f a = a
repeat (suc k) f a = f (repeat k f a)
