-- Any two outcomes that a contract of this crate allows are equal. Assumes nothing.
use mathlib.Core.Path.{◌≡◌, sym, ◌∙◌}
use mathlib.Core.List.{List}
use Prim.Native.Nat.{ℕ}
use Rattle.pauli.specs.Row.{Row}
use Rattle.std.specs.Prelude.{Result}
use Rattle.encoding.specs.declared.Refusal.{Refusal}
use Rattle.encoding.specs.Set.{Mem}
use Rattle.reduction.specs.Capacity.{Reduced}
use Rattle.terms.specs.Calls.{Multiplies, ReductionAnswer, Leaves}

pub imul-one : {n a b : ℕ} {M M₁ M₂ : Mem} {r s : Result ℕ Refusal} → Multiplies n a b M M₁ r → Multiplies n a b M M₂ s → (r ≡ s) × (M₁ ≡ M₂)
imul-one p q = (p.answer ∙ sym q.answer, p.rows ∙ sym q.rows)

-- `canonicalize` and `canonicalize_all`
pub reduce-one : {n f : ℕ} {out : Reduced Row} {M M₁ M₂ : Mem} {log log₁ log₂ : List ℕ} {r s : ReductionAnswer} → Leaves n f out M log M₁ log₁ r
    → Leaves n f out M log M₂ log₂ s → (r ≡ s) × (M₁ ≡ M₂) × (log₁ ≡ log₂)
reduce-one p q = (p.answer ∙ sym q.answer, p.rows ∙ sym q.rows, p.entries ∙ sym q.entries)
