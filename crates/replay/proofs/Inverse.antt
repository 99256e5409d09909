-- The inverse of a row: a row by its inverse is the identity with exponent 0, both ways, as rows and as matrices; a product by a row is taken back by a
-- product by its inverse, and the other way round. Assumes nothing.
use mathlib.Core.Path.{◌≡◌, refl, ap, ap₂, ◌∙◌}
use mathlib.Core.Bool.{Bool, true, false}
use mathlib.Core.List.{List, [], ◌∷◌}
use Prim.Native.Nat.{ℕ, zero, suc, ◌+◌, ◌-◌, ◌*◌, ◌%◌, ◌≤◌, ◌<◌}
use native.Mathlib.Nat.{suc_inj}
use native.Mathlib.Omega.{arith}
use borrow.Author.Tests.{eq-eqb}
use lib.ListN.{length, get_or, take, replicate}
use Rattle.pauli.specs.declared.PauliMatrix.TheVariants.{I, X, Y, Z}
use Rattle.pauli.specs.Pauli.{Pauli, ◌·◌, phases}
use Rattle.pauli.specs.Row.{Row, pad_mul, identity, expo, mul_row, same_row}
use Rattle.pauli.specs.Matrix.{matrix, times, Same, on_qubits, row_matrix, basis}
use Rattle.pauli.proofs.GaussRing.{g1-⊗, g0-⊗}
use Rattle.pauli.proofs.RowLaws.{mul-I, phase-I, pad-at, mul_assoc, row-eq}
use Rattle.pauli.proofs.Bools.{and_both}
use Rattle.pauli.proofs.RowTests.{→qubits}
use Rattle.pauli.proofs.Meaning.{row-product, square-phase}
use Rattle.replay.specs.Undo.{inverse, mul_inverse}

-- I at each of k qubits, with exponent 0
abbrev pub one : ℕ → Row
one k = record { ps = replicate k I; p = 0 }

-- ---- a row by its inverse

self-I : (p : Pauli) → p · p ≡ I
self-I I = refl
self-I X = refl
self-I Y = refl
self-I Z = refl

pad-self : (l : List Pauli) → pad_mul l l ≡ replicate (length l) I
unfolding pad_mul
pad-self [] = refl
pad-self (p ∷ l) = ap₂ (λ (q : Pauli) (k : List Pauli). q ∷ k) (self-I p) (pad-self l)

right-sum : (p e : ℕ) → p < 4 → (p + p + e) % 4 ≡ (2 * p) % 4 → (p + (4 - p) % 4 + e) % 4 ≡ 0
right-sum p e h g = omega arith

left-sum : (p e : ℕ) → p < 4 → (p + p + e) % 4 ≡ (2 * p) % 4 → ((4 - p) % 4 + p + e) % 4 ≡ 0
left-sum p e h g = omega arith

pub mul-inverse : (n : ℕ) (a : Row) → a.p < 4 → mul_row n a (inverse a) ≡ one (length a.ps)
unfolding mul_row inverse
mul-inverse n a h = row-eq (pad-self a.ps) (right-sum a.p (expo n a a) h (square-phase n a))

pub inverse-mul : (n : ℕ) (a : Row) → a.p < 4 → mul_row n (inverse a) a ≡ one (length a.ps)
unfolding mul_row inverse
inverse-mul n a h = row-eq (pad-self a.ps) (left-sum a.p (expo n a a) h (square-phase n a))

all-I : (k q : ℕ) → get_or (replicate k I) q I ≡ I
all-I zero q = refl
all-I (suc k) zero = refl
all-I (suc k) (suc q) = all-I k q

-- on n qubits that is the identity, with exponent 0
pub one_same : (n k : ℕ) → same_row n (one k) identity ≡ true
one_same n k = and_both (→qubits n (replicate k I) [] (λ q _. all-I k q)) refl

-- ---- as matrices

on-I : (n k : ℕ) → on_qubits n (replicate k I) ≡ on_qubits n []
unfolding on_qubits
on-I zero k = refl
on-I (suc n) zero = refl
on-I (suc n) (suc k) = ap (λ (l : List Pauli). I ∷ l) (on-I n k)

unit-matrix : (n : ℕ) (r c : List Bool) → length r ≡ n → length c ≡ n → matrix (on_qubits n []) r c ≡ basis r c
unfolding on_qubits
unit-matrix zero [] [] hr hc = refl
unit-matrix zero [] (b ∷ c) hr hc = absurd (omega arith)
unit-matrix zero (a ∷ r) c hr hc = absurd (omega arith)
unit-matrix (suc n) [] c hr hc = absurd (omega arith)
unit-matrix (suc n) (a ∷ r) [] hr hc = absurd (omega arith)
unit-matrix (suc n) (false ∷ r) (false ∷ c) hr hc = g1-⊗ (matrix (on_qubits n []) r c) ∙ unit-matrix n r c (suc_inj hr) (suc_inj hc)
unit-matrix (suc n) (false ∷ r) (true ∷ c) hr hc = g0-⊗ (matrix (on_qubits n []) r c)
unit-matrix (suc n) (true ∷ r) (false ∷ c) hr hc = g0-⊗ (matrix (on_qubits n []) r c)
unit-matrix (suc n) (true ∷ r) (true ∷ c) hr hc = g1-⊗ (matrix (on_qubits n []) r c) ∙ unit-matrix n r c (suc_inj hr) (suc_inj hc)

-- the identity matrix: 1 where both states are the same, else 0
pub one-matrix : (n k : ℕ) → Same n (row_matrix n (one k)) basis
one-matrix n k r c hr hc = g1-⊗ (matrix (on_qubits n (replicate k I)) r c) ∙ ap (λ (l : List Pauli). matrix l r c) (on-I n k) ∙ unit-matrix n r c hr hc

module _ (n : ℕ) (a : Row) (h : a.p < 4) where
  pub inverse-right : Same n (times n (row_matrix n a) (row_matrix n (inverse a))) basis
  inverse-right r c hr hc =
      row-product n a (inverse a) r c hr hc ∙ ap (λ (q : Row). row_matrix n q r c) (mul-inverse n a h) ∙ one-matrix n (length a.ps) r c hr hc

  pub inverse_left : Same n (times n (row_matrix n (inverse a)) (row_matrix n a)) basis
  inverse_left r c hr hc =
      row-product n (inverse a) a r c hr hc ∙ ap (λ (q : Row). row_matrix n q r c) (inverse-mul n a h) ∙ one-matrix n (length a.ps) r c hr hc

-- ---- taking a product back

pad-one : (k : ℕ) (l : List Pauli) → k ≤ length l → pad_mul l (replicate k I) ≡ l
unfolding pad_mul
pad-one zero [] h = refl
pad-one (suc k) [] h = absurd (omega arith)
pad-one zero (p ∷ l) h = refl
pad-one (suc k) (p ∷ l) h = ap₂ (λ (q : Pauli) (m : List Pauli). q ∷ m) (mul-I p) (pad-one k l (omega arith))

phases-one : (n k : ℕ) (l : List Pauli) → phases l (take n (replicate k I)) ≡ 0
phases-one n k [] = refl
phases-one zero k (p ∷ l) = refl
phases-one (suc n) zero (p ∷ l) = refl
phases-one (suc n) (suc k) (p ∷ l) = ap₂ ◌+◌ (phase-I p) (phases-one n k l)

mul-one : (n k : ℕ) (a : Row) → k ≤ length a.ps → a.p < 4 → mul_row n a (one k) ≡ a
unfolding mul_row
mul-one n k a l h = row-eq (pad-one k a.ps l) (omega (arith, phases-one n k (take n a.ps)))

-- the row that is multiplied holds as many Paulis as the other, or more
module _ (n : ℕ) (a b : Row) (l : length b.ps ≤ length a.ps) (ha : a.p < 4) (hb : b.p < 4) where
  pub mul-back : mul_inverse n (mul_row n a b) b ≡ a
  mul-back = mul_assoc n a b (inverse b) ∙ ap (mul_row n a) (mul-inverse n b hb) ∙ mul-one n (length b.ps) a l ha

  pub back-mul : mul_row n (mul_inverse n a b) b ≡ a
  back-mul = mul_assoc n a (inverse b) b ∙ ap (mul_row n a) (inverse-mul n b hb) ∙ mul-one n (length b.ps) a l ha

-- rows whose lists have any lengths: every Pauli of the n qubits, and the exponent
module _ (n : ℕ) (a b : Row) (ha : a.p < 4) (hb : b.p < 4) where
  same-one : (k : ℕ) → same_row n (mul_row n a (one k)) a ≡ true
  unfolding mul_row
  same-one k =
      and_both
      (→qubits n (pad_mul a.ps (replicate k I)) a.ps (λ q _. pad-at a.ps (replicate k I) q ∙ ap (λ (p : Pauli). get_or a.ps q I · p) (all-I k q) ∙ mul-I (get_or a.ps q I)))
      (eq-eqb (mul_row n a (one k)).p a.p (omega (arith, phases-one n k (take n a.ps))))

  pub mul-back-same : same_row n (mul_inverse n (mul_row n a b) b) a ≡ true
  mul-back-same = ap (λ (r : Row). same_row n r a) (mul_assoc n a b (inverse b) ∙ ap (mul_row n a) (mul-inverse n b hb)) ∙ same-one (length b.ps)

  pub back-mul-same : same_row n (mul_row n (mul_inverse n a b) b) a ≡ true
  back-mul-same = ap (λ (r : Row). same_row n r a) (mul_assoc n a (inverse b) b ∙ ap (mul_row n a) (inverse-mul n b hb)) ∙ same-one (length b.ps)

-- ---- for the machine: the product by the row itself, and then twice its exponent more

after-sum : (x y e : ℕ) → y < 4 → (x + (4 - y) % 4 + e) % 4 ≡ ((x + y + e) % 4 + 2 * y) % 4
after-sum x y e h = omega arith

pub inverse-after : (n : ℕ) (a b : Row) → b.p < 4 → mul_inverse n a b ≡ record { ps = (mul_row n a b).ps; p = ((mul_row n a b).p + 2 * b.p) % 4 }
unfolding mul_row inverse
inverse-after n a b h = row-eq refl (after-sum a.p b.p (expo n a b) h)
