-- Any two outcomes that a call's contract allows are equal: the answers, and what stands in the lent buffers. A contract is equations whose right sides speak
-- of what was given alone, so both outcomes equal the same. Assumes nothing.
use mathlib.Core.Path.{◌≡◌, sym, ◌∙◌}
use mathlib.Core.List.{List}
use Prim.Native.Nat.{ℕ}
use Rattle.pauli.specs.Pauli.{Pauli}
use Rattle.encoding.specs.Set.{Mem}
use Rattle.encoding.specs.declared.Refusal.{Refusal}
use Rattle.std.specs.Prelude.{Bool, Result}
use Rattle.cmpnt_list.specs.Calls.{get_qubit, SetQubit, count_in, phase_of_mul, commutes_with, belongs_to_centralizer, CompatibilityMatrix, MulPairwise, ImulState}
use Rattle.pauli.specs.declared.ComplexSign.{ComplexSign}

pub get-qubit-one : (n : ℕ) (M : Mem) (r q : ℕ) {a b : Result Pauli Refusal} → a ≡ get_qubit n M r q → b ≡ get_qubit n M r q → a ≡ b
get-qubit-one n M r q e f = e ∙ sym f

pub count-one : (n : ℕ) (M : Mem) (r : ℕ) (p : Pauli) {a b : Result ℕ Refusal} → a ≡ count_in n M r p → b ≡ count_in n M r p → a ≡ b
count-one n M r p e f = e ∙ sym f

pub phase-of-mul-one : (n : ℕ) (M : Mem) (i j : ℕ) {a b : Result ComplexSign Refusal} → a ≡ phase_of_mul n M i j → b ≡ phase_of_mul n M i j → a ≡ b
phase-of-mul-one n M i j e f = e ∙ sym f

-- the counted engine and the one by look-ups give the same exponent, and refuse with the same number: their contracts are one equation
pub engines-agree : (n : ℕ) (M : Mem) (i j : ℕ) {counted looked : Result ComplexSign Refusal} → counted ≡ phase_of_mul n M i j → looked ≡ phase_of_mul n M i j → counted ≡ looked
engines-agree = phase-of-mul-one

pub commutes-with-one : (n : ℕ) (M : Mem) (i j : ℕ) {a b : Result Bool Refusal} → a ≡ commutes_with n M i j → b ≡ commutes_with n M i j → a ≡ b
commutes-with-one n M i j e f = e ∙ sym f

pub belongs-to-centralizer-one : (n : ℕ) (M : Mem) (r : ℕ) {a b : Result Bool Refusal} → a ≡ belongs_to_centralizer n M r → b ≡ belongs_to_centralizer n M r → a ≡ b
belongs-to-centralizer-one n M r e f = e ∙ sym f

pub set-qubit-one : {n : ℕ} {M : Mem} {r q : ℕ} {p : Pauli} {M₁ M₂ : Mem} {a b : Result Unit Refusal} → SetQubit n M r q p M₁ a → SetQubit n M r q p M₂ b → (a ≡ b) × (M₁ ≡ M₂)
set-qubit-one c d = (c.answer ∙ sym d.answer, c.rows ∙ sym d.rows)

pub compatibility-matrix-one : {n : ℕ} {M : Mem} {out o₁ o₂ : List ℕ} {a b : Result Unit Refusal}
    → CompatibilityMatrix n M out o₁ a → CompatibilityMatrix n M out o₂ b → (a ≡ b) × (o₁ ≡ o₂)
compatibility-matrix-one c d = (c.answer ∙ sym d.answer, c.matrix ∙ sym d.matrix)

pub mul-pairwise-one : {n : ℕ} {L R O O₁ O₂ : Mem} {cs c₁ c₂ : List ℕ} {a b : Result Unit Refusal}
    → MulPairwise n L R O O₁ cs c₁ a → MulPairwise n L R O O₂ cs c₂ b → (a ≡ b) × (O₁ ≡ O₂) × (c₁ ≡ c₂)
mul-pairwise-one c d = (c.answer ∙ sym d.answer, c.rows ∙ sym d.rows, c.numbers ∙ sym d.numbers)

pub imul-state-one : {n : ℕ} {M : Mem} {r : ℕ} {st s₁ s₂ : List ℕ} {a b : Result ComplexSign Refusal} → ImulState n M r st s₁ a → ImulState n M r st s₂ b → (a ≡ b) × (s₁ ≡ s₂)
imul-state-one c d = (c.answer ∙ sym d.answer, c.state ∙ sym d.state)
