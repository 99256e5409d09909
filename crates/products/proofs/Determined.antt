-- Any two outcomes that a row leaf's contract allows are equal: the exponents, and the words that it was lent to write. The other leaves' contracts are
-- equations. Assumes nothing.
use Rattle.std.proofs.Common.{◌≡◌, ℕ, Bool, true, false, List, sym, refl, ◌∙◌, subst, ap₂, zero-add}
use Rattle.pauli.specs.Pauli.{Pauli}
use Rattle.encoding.specs.Set.{part}
use Rattle.products.specs.declared.Factor.{Factor}
use Rattle.products.specs.Leaves.{FactorOf, Outside, RowProduct, RowAction, inside, ProductIn, Multiplied}
use Rattle.products.proofs.PartLaws.{outside-one}

-- a part from the front
front-one : (k : ℕ) {old new₁ new₂ : List ℕ} → Outside 0 k old new₁ → Outside 0 k old new₂ → part 0 k new₁ ≡ part 0 k new₂ → new₁ ≡ new₂
front-one k {old} {new₁} {new₂} o p e =
    let z = sym (zero-add k) in
    outside-one 0 k (subst (λ (j : ℕ). Outside 0 j old new₁) z o) (subst (λ (j : ℕ). Outside 0 j old new₂) z p) (subst (λ (j : ℕ). part 0 j new₁ ≡ part 0 j new₂) z e)

-- a factor is settled by its two numbers
pub factor-one : {l r : List Pauli} {f g : Factor} → FactorOf l r f → FactorOf l r g → f ≡ g
factor-one p q = ap₂ (λ (e c : ℕ). record { phase = record { 0 = e }; clashes = c }) (p.exponent ∙ sym q.exponent) (p.number ∙ sym q.number)

pub mul-op-op-one : (lx lz rx rz ox oz : List ℕ) {ox₁ oz₁ ox₂ oz₂ : List ℕ} {e₁ e₂ : Factor} → RowProduct lx lz rx rz ox oz ox₁ oz₁ e₁ → RowProduct lx lz rx rz ox oz ox₂ oz₂ e₂
    → (ox₁ ≡ ox₂) × (oz₁ ≡ oz₂) × (e₁ ≡ e₂)
mul-op-op-one lx lz rx rz ox oz p q = (
  front-one _ p.x-rest q.x-rest (p.here.x-words ∙ sym q.here.x-words),
  front-one _ p.z-rest q.z-rest (p.here.z-words ∙ sym q.here.z-words),
  factor-one p.here.factor q.here.factor,
)

pub imul-op-state-one : (lx lz st : List ℕ) {st₁ st₂ : List ℕ} {e₁ e₂ : ℕ} → RowAction lx lz st st₁ e₁ → RowAction lx lz st st₂ e₂ → (st₁ ≡ st₂) × (e₁ ≡ e₂)
imul-op-state-one lx lz st p q = (front-one _ p.rest q.rest (p.here.state ∙ sym q.here.state), p.here.exponent ∙ sym q.here.exponent)

pub imul-op-op-one : (w s t : ℕ) (xs zs : List ℕ) {xs₁ zs₁ xs₂ zs₂ : List ℕ} {e₁ e₂ : Factor} → ProductIn w s t xs zs xs₁ zs₁ e₁ → ProductIn w s t xs zs xs₂ zs₂ e₂
    → (xs₁ ≡ xs₂) × (zs₁ ≡ zs₂) × (e₁ ≡ e₂)
imul-op-op-one w s t xs zs {xs₁} {zs₁} {xs₂} {zs₂} {e₁} {e₂} p q = go (inside w s t xs zs) refl
  where
    both : Multiplied w s t xs zs xs₁ zs₁ e₁ → Multiplied w s t xs zs xs₂ zs₂ e₂ → (xs₁ ≡ xs₂) × (zs₁ ≡ zs₂) × (e₁ ≡ e₂)
    both m n = (
      outside-one s w m.x-rest n.x-rest (m.here.x-words ∙ sym n.here.x-words),
      outside-one s w m.z-rest n.z-rest (m.here.z-words ∙ sym n.here.z-words),
      factor-one m.here.factor n.here.factor,
    )

    go : (b : Bool) → inside w s t xs zs ≡ b → (xs₁ ≡ xs₂) × (zs₁ ≡ zs₂) × (e₁ ≡ e₂)
    go true h = both (p.done h) (q.done h)
    go false h = (p.x-kept h ∙ sym (q.x-kept h), p.z-kept h ∙ sym (q.z-kept h), factor-one (p.none h) (q.none h))
