-- Rows of Paulis on n qubits have the laws that the theorems ask, over 2n columns, and `same_row` tells whether two of them agree. Assumes nothing.
use mathlib.Core.Path.{◌≡◌, refl}
use mathlib.Core.Logic.{◌↔◌}
use mathlib.Core.Bool.{true}
use Prim.Native.Nat.{ℕ, ◌+◌}
use borrow.Author.Tests.{eqb-true, eq-eqb}
use Rattle.pauli.specs.Row.{Row, expo, mul_row, bit_row, same_qubits, same_row}
use Rattle.pauli.proofs.RowLaws.{same_bits, bit-same, bit-mul, mul_assoc, expo-bits, expo-none}
use Rattle.pauli.proofs.Bools.{and_left, and_right, and_both}
use Rattle.pauli.proofs.RowTests.{qubits→, →qubits}
use Rattle.reduction.specs.Demand.{Agree}
use Rattle.reduction.specs.Laws.{Laws}

pub rows-laws : (n : ℕ) → Laws (bit_row n) (mul_row n) (λ (r : Row). r.p) (expo n) (n + n)
unfolding mul_row
rows-laws n = record { bit-mul = bit-mul n; assoc = mul_assoc n; ph-mul = λ a b. refl; expo-bits = expo-bits n; expo-none = expo-none n }

-- `same_row` passes exactly the rows that agree in every bit and in the phase.
pub rows_tell : (n : ℕ) (a b : Row) → (same_row n a b ≡ true) ↔ Agree (bit_row n) (λ (r : Row). r.p) (n + n) a b
rows_tell n a b = (
  λ e. record {
    bits = bit-same n a.ps b.ps (qubits→ n a.ps b.ps (and_left (same_qubits n a.ps b.ps) _ e));
    phase = eqb-true a.p b.p (and_right (same_qubits n a.ps b.ps) _ e);
  },
  λ h. and_both (→qubits n a.ps b.ps (same_bits n a.ps b.ps h.bits)) (eq-eqb a.p b.p h.phase),
)
