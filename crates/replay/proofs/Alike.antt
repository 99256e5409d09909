-- Two row sets compared in memory: words that are equal are the same qubits, and the other way, where the bits at n and above are zero. The first row that differs
-- is looked for from row i on (`diff-here`, `diff-next`). Assumes nothing.
use mathlib.Core.Path.{◌≡◌, refl, sym, ap, ap₂, ◌∙◌}
use mathlib.Core.Bool.{Bool, true, false, cond, ◌&&◌}
use mathlib.Core.Option.{none, some}
use Prim.Native.Nat.{ℕ, zero, suc, ◌+◌, ◌≤◌, ◌<◌}
use native.Mathlib.Numerals.{add-one}
use native.Mathlib.Omega.{arith}
use lib.Dec.{eqb}
use lib.ListN.{get_or}
use Rattle.pauli.specs.declared.PauliMatrix.TheVariants.{I}
use Rattle.pauli.specs.Row.{same_qubits, same_row}
use Rattle.encoding.specs.Words.{qubits}
use Rattle.encoding.specs.Set.{row, Mem, count, exponent_at, rows_held, Valid}
use Rattle.encoding.proofs.Sets.{row_words}
use Rattle.reduction.specs.Checker.{first_diff}
use Rattle.pauli.proofs.Bools.{not_so}
use Rattle.pauli.proofs.RowTests.{qubits→, →qubits}

-- ---- row k of two sets of the same n and m

module _ (n w : ℕ) {A B : Mem} (v : Valid n w A) (v' : Valid n w B) (m : count A ≡ count B) (k : ℕ) (h : k < count A) where
  -- the same qubits are the same words
  back : same_qubits n (qubits n (row w k A.xs) (row w k A.zs)) (qubits n (row w k B.xs) (row w k B.zs)) ≡ true
      → (row w k A.xs ≡ row w k B.xs) × (row w k A.zs ≡ row w k B.zs)
  back e = row_words n w v v' m k h (qubits→ n _ _ e)

  -- the words are the same: the phase decides
  pub row_same : row w k A.xs ≡ row w k B.xs → row w k A.zs ≡ row w k B.zs → eqb (exponent_at A.es k) (exponent_at B.es k) ≡ same_row n (rows_held n w A k) (rows_held n w B k)
  unfolding rows_held
  row_same p q =
      let e : qubits n (row w k A.xs) (row w k A.zs) ≡ qubits n (row w k B.xs) (row w k B.zs) = ap₂ (qubits n) p q in
      sym (ap (λ (t : Bool). t && eqb (exponent_at A.es k) (exponent_at B.es k)) (→qubits n _ _ (λ i _. ap (λ l. get_or l i I) e)))

  no-qubits : (same_qubits n (qubits n (row w k A.xs) (row w k A.zs)) (qubits n (row w k B.xs) (row w k B.zs)) ≡ true → ⊥)
      → false ≡ same_row n (rows_held n w A k) (rows_held n w B k)
  unfolding rows_held
  no-qubits ne = sym (ap (λ (t : Bool). t && eqb (exponent_at A.es k) (exponent_at B.es k)) (not_so _ ne))

  pub row-x-not : (row w k A.xs ≡ row w k B.xs → ⊥) → false ≡ same_row n (rows_held n w A k) (rows_held n w B k)
  row-x-not ne = no-qubits (λ t. ne (back t).0)

  pub row-z-not : (row w k A.zs ≡ row w k B.zs → ⊥) → false ≡ same_row n (rows_held n w A k) (rows_held n w B k)
  row-z-not ne = no-qubits (λ t. ne (back t).1)

-- ---- the first row that differs: m is what is left of the rows

module _ {R : Type 0} (same : R → R → Bool) (σ τ : ℕ → R) (n i m : ℕ) (whole : i + m ≡ n) where
  diff-at : (m' : ℕ) → m ≡ suc m' → first_diff same σ τ i m ≡ cond (same (σ i) (τ i)) (first_diff same σ τ (i + 1) m') (some i)
  unfolding first_diff
  diff-at m' e = ap (first_diff same σ τ i) e ∙ ap (λ j. cond (same (σ i) (τ i)) (first_diff same σ τ j m') (some i)) (sym (add-one i))

  pub diff-here : i < n → false ≡ same (σ i) (τ i) → some i ≡ first_diff same σ τ i m
  diff-here h d = go m refl
    where
      go : (k : ℕ) → m ≡ k → some i ≡ first_diff same σ τ i m
      go zero e = absurd (omega arith)
      go (suc k) e = sym (diff-at k e ∙ ap (λ b. cond b (first_diff same σ τ (i + 1) k) (some i)) (sym d))

  pub diff-next : true ≡ same (σ i) (τ i) → (m' : ℕ) → m ≡ suc m' → first_diff same σ τ (i + 1) m' ≡ first_diff same σ τ i m
  diff-next d m' e = sym (diff-at m' e ∙ ap (λ b. cond b (first_diff same σ τ (i + 1) m') (some i)) (sym d))

  pub diff-end : n ≤ i → none ≡ first_diff same σ τ i m
  unfolding first_diff
  diff-end h = let e : m ≡ 0 = omega arith in sym (ap (first_diff same σ τ i) e)
