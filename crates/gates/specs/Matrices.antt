-- RULES 14.2: the matrices of the gates on n qubits, each from its small one on the qubits that it touches. Assumes nothing.
use Rattle.std.specs.Prelude.{Bool, true, false, cond, ◌&&◌, List, get_or, ℕ}
use Rattle.std.specs.Bool.{beq}
use Rattle.pauli.specs.Gauss.{Gauss, ◌⊕◌, minus, g0, g1, gi}
use Rattle.pauli.specs.Matrix.{Matrix, same_state}
use Rattle.gates.specs.Places.{at, blank}
use Rattle.gates.specs.Gates.{Gate, H, S, CX, touched, differ}

-- [[1,1],[1,-1]]: H without its factor, one over the root of 2
abbrev pub entry_h : Bool → Bool → Gauss
entry_h false b = g1
entry_h true false = g1
entry_h true true = minus g1

-- diag(1,d)
abbrev pub diagonal : Gauss → Bool → Bool → Gauss
diagonal d false false = g1
diagonal d false true = g0
diagonal d true false = g0
diagonal d true true = d

-- controlled-X takes the state of control c and target d to the one of control c and target c xor d: in that column's row it has 1, elsewhere 0
abbrev pub entry_cx : Bool → Bool → Bool → Bool → Gauss
entry_cx a b c d = cond (beq a c && beq b (differ c d)) g1 g0

-- a gate on the qubits that it touches; S is diag(1,i)
abbrev pub small : Gate → Matrix
small (H q) r s = entry_h (get_or r 0 false) (get_or s 0 false)
small (S q) r s = diagonal gi (get_or r 0 false) (get_or s 0 false)
small (CX c t) r s = entry_cx (get_or r 0 false) (get_or r 1 false) (get_or s 0 false) (get_or s 1 false)

-- the gate on the other side: of S the inverse, diag(1,-i); H and controlled-X themselves
abbrev pub small_inverse : Gate → Matrix
small_inverse (H q) r s = small (H q) r s
small_inverse (S q) r s = diagonal (minus gi) (get_or r 0 false) (get_or s 0 false)
small_inverse (CX c t) r s = small (CX c t) r s

-- gate times inverse is this number times the identity: 2 for H, having no root on either side
abbrev pub factor : Gate → Gauss
factor (H q) = g1 ⊕ g1
factor (S q) = g1
factor (CX c t) = g1

-- a small matrix on the qubits qs: its entry where the two basis states are the same at all other qubits, 0 elsewhere
abbrev pub lift : List ℕ → Matrix → Matrix
lift qs A r s = cond (same_state (blank false r qs) (blank false s qs)) (A (at false r qs) (at false s qs)) g0

abbrev pub gate_matrix : Gate → Matrix
gate_matrix g = lift (touched g) (small g)

abbrev pub inverse_matrix : Gate → Matrix
inverse_matrix g = lift (touched g) (small_inverse g)
