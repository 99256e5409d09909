-- Gate, row, inverse gate, multiplied as matrices, give the conjugated row with its sign; twice it for H. One theorem for all gates: on the touched
-- qubits it is a computed test of every Pauli and bit, and proofs/Lifted.antt carries it to n qubits. Assumes nothing.
use mathlib.Core.Path.{◌≡◌, refl, sym, ap, ◌∙◌}
use mathlib.Core.Bool.{Bool, false, cond}
use mathlib.Core.List.{List, [], ◌∷◌}
use Prim.Native.Nat.{ℕ, ◌+◌, ◌%◌}
use native.Mathlib.Omega.{arith}
use lib.Dec.{T}
use lib.ListN.{length, get_or}
use Rattle.pauli.specs.Gauss.{Gauss, ◌⊗◌, ipow}
use Rattle.pauli.specs.Matrix.{Matrix, matrix, times, scaled, Same, on_qubits, row_matrix}
use Rattle.pauli.specs.Pauli.{Pauli}
use Rattle.pauli.specs.declared.PauliMatrix.TheVariants.{I}
use Rattle.pauli.specs.Row.{Row}
use Rattle.pauli.proofs.Every.{every_p, at_p, every_b, at_b, eq_g, eq_g→eq}
use Rattle.pauli.proofs.GaussRing.{⊗-comm, ⊗-assoc, ipow-add, ipow-mod}
use Rattle.pauli.proofs.OnQubits.{length-on, on_same}
use Rattle.pauli.proofs.Products.{sum-scale, sum-ext}
use Rattle.gates.specs.Places.{at, Places}
use Rattle.gates.specs.Gates.{Gate, H, S, CX, touched, image, turns, conj, sign, conj_row}
use Rattle.gates.specs.Matrices.{small, small_inverse, factor, gate_matrix, inverse_matrix}
use Rattle.gates.proofs.Spots.{length-put}
use Rattle.gates.proofs.Lifted.{conjugate-lifted}

-- ---- on the touched qubits, by a test of every case

abbrev left : Gate → List Pauli → List Bool → List Bool → Gauss
left g ps r s = times (length (touched g)) (times (length (touched g)) (small g) (matrix ps)) (small_inverse g) r s

abbrev right : Gate → List Pauli → List Bool → List Bool → Gauss
right g ps r s = (factor g ⊗ ipow (cond (turns g ps) 2 0)) ⊗ matrix (image g ps) r s

rule1 : Gate → Pauli → Bool → Bool → Bool
rule1 g p a b = eq_g (left g (p ∷ []) (a ∷ []) (b ∷ [])) (right g (p ∷ []) (a ∷ []) (b ∷ []))

rule2 : Gate → Pauli → Pauli → Bool → Bool → Bool → Bool → Bool
rule2 g p q a b c d = eq_g (left g (p ∷ q ∷ []) (a ∷ b ∷ []) (c ∷ d ∷ [])) (right g (p ∷ q ∷ []) (a ∷ b ∷ []) (c ∷ d ∷ []))

at1 : (f : Pauli → Bool → Bool → Bool) → T (every_p (λ p. every_b (λ a. every_b (f p a)))) → (p : Pauli) (a b : Bool) → T (f p a b)
at1 f t p a b = at_b (f p a) (at_b (λ a. every_b (f p a)) (at_p (λ p. every_b (λ a. every_b (f p a))) t p) a) b

at2 : (f : Pauli → Pauli → Bool → Bool → Bool → Bool → Bool)
    → T (every_p (λ p. every_p (λ q. every_b (λ a. every_b (λ b. every_b (λ c. every_b (f p q a b c)))))))
    → (p q : Pauli) (a b c d : Bool) → T (f p q a b c d)
at2 f t p q a b c d =
    at_b (f p q a b c) (at_b (λ c. every_b (f p q a b c))
    (at1 (λ q a b. every_b (λ c. every_b (f p q a b c))) (at_p (λ p. every_p (λ q. every_b (λ a. every_b (λ b. every_b (λ c. every_b (f p q a b c)))))) t p) q a b) c) d

on-touched : (g : Gate) (ps : List Pauli) (r s : List Bool)
    → left g (at I ps (touched g)) (at false r (touched g)) (at false s (touched g))
    ≡ right g (at I ps (touched g)) (at false r (touched g)) (at false s (touched g))
unfolding rule1 rule2
on-touched (H k) ps r s =
    let p = get_or ps k.0 I in
    let a = get_or r k.0 false in
    let b = get_or s k.0 false in
    eq_g→eq (left (H k) (p ∷ []) (a ∷ []) (b ∷ [])) (right (H k) (p ∷ []) (a ∷ []) (b ∷ [])) (at1 (rule1 (H k)) tt p a b)
on-touched (S k) ps r s =
    let p = get_or ps k.0 I in
    let a = get_or r k.0 false in
    let b = get_or s k.0 false in
    eq_g→eq (left (S k) (p ∷ []) (a ∷ []) (b ∷ [])) (right (S k) (p ∷ []) (a ∷ []) (b ∷ [])) (at1 (rule1 (S k)) tt p a b)
on-touched (CX c t) ps r s =
    let p = get_or ps c.0 I in
    let q = get_or ps t.0 I in
    let a = get_or r c.0 false in
    let b = get_or r t.0 false in
    let d = get_or s c.0 false in
    let e = get_or s t.0 false in
    eq_g→eq (left (CX c t) (p ∷ q ∷ []) (a ∷ b ∷ []) (d ∷ e ∷ [])) (right (CX c t) (p ∷ q ∷ []) (a ∷ b ∷ []) (d ∷ e ∷ []))
    (at2 (rule2 (CX c t)) tt p q a b d e)

pub length-image : (g : Gate) (ps : List Pauli) → length (image g ps) ≡ length (touched g)
length-image (H q) ps = refl
length-image (S q) ps = refl
length-image (CX c t) ps = refl

-- ---- on n qubits

pub conjugate : (n : ℕ) (g : Gate) (ps : List Pauli) (r s : List Bool) → Places n (touched g) → length ps ≡ n → length r ≡ n → length s ≡ n
    → times n (times n (gate_matrix g) (matrix ps)) (inverse_matrix g) r s ≡ (factor g ⊗ ipow (sign g ps)) ⊗ matrix (conj g ps) r s
conjugate n g ps r s h e₁ e₂ e₃ =
    let xs = at I ps (touched g) in
    conjugate-lifted n (touched g) (small g) (small_inverse g) ps (image g xs) (factor g ⊗ ipow (sign g ps)) r s e₁ e₂ e₃ h (length-image g xs) (on-touched g ps r s)

pub length-conj : (n : ℕ) (g : Gate) (ps : List Pauli) → length ps ≡ n → length (conj g ps) ≡ n
length-conj n g ps e = length-put ps (touched g) (image g (at I ps (touched g))) ∙ e

-- ---- rows with their phases

-- a number comes out of a product, on either side
scaled-right : (n : ℕ) (k : Gauss) (A B : Matrix) (r s : List Bool) → times n A (scaled k B) r s ≡ k ⊗ times n A B r s
scaled-right n k A B r s =
    sum-ext n (λ t. A r t ⊗ (k ⊗ B t s)) (λ t. k ⊗ (A r t ⊗ B t s)) (λ t. sym (⊗-assoc (A r t) k (B t s)) ∙ ap (λ (x : Gauss). x ⊗ B t s) (⊗-comm (A r t) k) ∙ ⊗-assoc k (A r t) (B t s))
    ∙ sum-scale n k (λ t. A r t ⊗ B t s)

scaled-left : (n : ℕ) (k : Gauss) (A B : Matrix) (r s : List Bool) → times n (scaled k A) B r s ≡ k ⊗ times n A B r s
scaled-left n k A B r s =
    sum-ext n (λ t. (k ⊗ A r t) ⊗ B t s) (λ t. k ⊗ (A r t ⊗ B t s)) (λ t. ⊗-assoc k (A r t) (B t s)) ∙ sum-scale n k (λ t. A r t ⊗ B t s)

pub row-conjugated : (n : ℕ) (g : Gate) (a : Row) → Places n (touched g)
    → Same n (times n (times n (gate_matrix g) (row_matrix n a)) (inverse_matrix g)) (scaled (factor g) (row_matrix n (conj_row n g a)))
unfolding conj_row
row-conjugated n g a h r s er es =
    let ps = on_qubits n a.ps in
    let e = length-on n a.ps in
    let k = ipow a.p in
    let G = gate_matrix g in
    let B = inverse_matrix g in
    let A = matrix ps in
    let m = matrix (conj g ps) r s in
    sum-ext n (λ t. times n G (scaled k A) r t ⊗ B t s) (λ t. (k ⊗ times n G A r t) ⊗ B t s) (λ t. ap (λ (x : Gauss). x ⊗ B t s) (scaled-right n k G A r t))
    ∙ scaled-left n k (times n G A) B r s
    ∙ ap (λ (x : Gauss). k ⊗ x) (conjugate n g ps r s h e er es)
    ∙ turned k (factor g) (ipow (sign g ps)) m
    ∙ ap (λ (x : Gauss). factor g ⊗ (x ⊗ m)) (sym (ipow-add a.p (sign g ps)) ∙ ipow-mod (a.p + sign g ps) ((a.p + sign g ps) % 4) (omega arith))
    ∙ ap (λ (l : List Pauli). factor g ⊗ (ipow ((a.p + sign g ps) % 4) ⊗ matrix l r s)) (sym (on_same n (conj g ps) (length-conj n g ps e)))
  where
    -- k ((f i) m) = f ((k i) m)
    turned : (k f i m : Gauss) → k ⊗ ((f ⊗ i) ⊗ m) ≡ f ⊗ ((k ⊗ i) ⊗ m)
    turned k f i m =
        sym (⊗-assoc k (f ⊗ i) m)
        ∙ ap (λ (x : Gauss). x ⊗ m) (sym (⊗-assoc k f i) ∙ ap (λ (x : Gauss). x ⊗ i) (⊗-comm k f) ∙ ⊗-assoc f k i)
        ∙ ⊗-assoc f (k ⊗ i) m
