-- One row of a set changed: the memory laid from the rows with row r changed by f is a row set again, and holds these rows; two changes of the same row
-- are one. What is laid is given by the rows below m alone. Assumes nothing.
use mathlib.Core.Path.{◌≡◌, sym, ap, ◌∙◌, subst}
use mathlib.Core.Bool.{Bool, cond}
use Prim.Native.Nat.{ℕ, ◌*◌, ◌≤◌, ◌<◌}
use native.Mathlib.Decide.{ℕ_discrete}
use native.Mathlib.Omega.{arith}
use borrow.Author.Tests.{eq-eqb, ne_eqb}
use lib.ListN.{length}
use Rattle.pauli.specs.Row.{Row}
use Rattle.encoding.specs.Limits.{max_rows, words_of}
use Rattle.encoding.specs.Set.{Mem, count, rows_held, rows_of, lay, Valid, Sound}
use Rattle.encoding.proofs.Exponents.{exponent_small}
use Rattle.encoding.proofs.Memory.{row_count, read-lay, valid-lay, count-lay}
use Rattle.one_qubit.specs.Leaves.{at_row}
pub use Rattle.encoding.proofs.Sets.{list_same, lay-same}

module _ (σ : ℕ → Row) (r : ℕ) (f : Row → Row) (k : ℕ) where
  pub row_here : k ≡ r → at_row σ r f k ≡ f (σ k)
  unfolding at_row
  row_here e = ap (λ (b : Bool). cond b (f (σ k)) (σ k)) (eq-eqb k r e)

  pub row_other : (k ≡ r → ⊥) → at_row σ r f k ≡ σ k
  unfolding at_row
  row_other ne = ap (λ (b : Bool). cond b (f (σ k)) (σ k)) (ne_eqb k r ne)

-- ---- rows of n qubits with exponents below 4

abbrev pub Fine : ℕ → Row → Type 0
Fine n x = (length x.ps ≡ n) × (x.p < 4)

pub fine-rows : (n : ℕ) {M : Mem} → Sound n M → (k : ℕ) → k < count M → Fine n (rows_of n M k)
unfolding rows_held
fine-rows n {M} s k h = (row_count n (words_of n) s.valid k h, exponent_small M.es k)

-- a whole set laid from such rows
module _ (n : ℕ) {M M' : Mem} (s : Sound n M) (σ : ℕ → Row) (fine : (k : ℕ) → k < count M → Fine n (σ k)) (e : M' ≡ lay n (count M) σ) where
  wide : n ≤ words_of n * 64
  wide = omega arith

  pub count-laid : count M' ≡ count M
  count-laid = ap count e ∙ count-lay n (words_of n) (count M) σ wide

  pub rows-laid : (k : ℕ) → k < count M → rows_of n M' k ≡ σ k
  rows-laid k h = ap (λ (N : Mem). rows_of n N k) e ∙ read-lay n (words_of n) (count M) σ wide k h (fine k h).0 (fine k h).1

  pub sound-laid : Sound n M'
  sound-laid =
      record {
        valid = subst (λ (N : Mem). Valid n (words_of n) N) (sym e) (valid-lay n (words_of n) (count M) σ wide (record { long = λ k h. (fine k h).0; small = λ k h. (fine k h).1 }));
        few-qubits = s.few-qubits;
        few-rows = subst (λ (k : ℕ). k ≤ max_rows) (sym count-laid) s.few-rows;
      }

-- ---- one row changed

pub fine-at : (n m : ℕ) (σ : ℕ → Row) (r : ℕ) (f : Row → Row) → ((k : ℕ) → k < m → Fine n (σ k)) → Fine n (f (σ r)) → (k : ℕ) → k < m → Fine n (at_row σ r f k)
fine-at n m σ r f h g k l = go (ℕ_discrete k r)
  where
    go : Dec (k ≡ r) → Fine n (at_row σ r f k)
    go (yes e) = subst (Fine n) (sym (row_here σ r f k e ∙ ap (λ (j : ℕ). f (σ j)) e)) g
    go (no ne) = subst (Fine n) (sym (row_other σ r f k ne)) (h k l)

-- the same row by another function that makes the same of it
pub at_same : (n m : ℕ) (σ : ℕ → Row) (r : ℕ) (f g : Row → Row) → f (σ r) ≡ g (σ r) → lay n m (at_row σ r f) ≡ lay n m (at_row σ r g)
at_same n m σ r f g e = lay-same n m (at_row σ r f) (at_row σ r g) (λ k _. go k (ℕ_discrete k r))
  where
    go : (k : ℕ) → Dec (k ≡ r) → at_row σ r f k ≡ at_row σ r g k
    go k (yes q) = row_here σ r f k q ∙ ap (λ (j : ℕ). f (σ j)) q ∙ e ∙ sym (row_here σ r g k q ∙ ap (λ (j : ℕ). g (σ j)) q)
    go k (no ne) = row_other σ r f k ne ∙ sym (row_other σ r g k ne)

-- the same row changed again
pub at_again : (n : ℕ) {M M₁ M₂ : Mem} (s : Sound n M) (r : ℕ) (f g : Row → Row) → r < count M → Fine n (f (rows_of n M r))
    → M₁ ≡ lay n (count M) (at_row (rows_of n M) r f) → M₂ ≡ lay n (count M₁) (at_row (rows_of n M₁) r g)
    → M₂ ≡ lay n (count M) (at_row (rows_of n M) r (λ x. g (f x)))
at_again n {M} {M₁} {M₂} s r f g hr h e₁ e₂ =
    let σ = rows_of n M in
    let fine = fine-at n (count M) σ r f (fine-rows n s) h in
    let c = count-laid n s (at_row σ r f) fine e₁ in
    e₂ ∙ ap (λ (m : ℕ). lay n m (at_row (rows_of n M₁) r g)) c
    ∙ lay-same n (count M) (at_row (rows_of n M₁) r g) (at_row σ r (λ x. g (f x)))
    (λ k l. go k (rows-laid n s (at_row σ r f) fine e₁ k l) (ℕ_discrete k r))
  where
    go : (k : ℕ) → rows_of n M₁ k ≡ at_row (rows_of n M) r f k → Dec (k ≡ r) → at_row (rows_of n M₁) r g k ≡ at_row (rows_of n M) r (λ x. g (f x)) k
    go k q (yes e) =
        row_here (rows_of n M₁) r g k e ∙ ap g (q ∙ row_here (rows_of n M) r f k e) ∙ sym (row_here (rows_of n M) r (λ x. g (f x)) k e)
    go k q (no ne) = row_other (rows_of n M₁) r g k ne ∙ q ∙ row_other (rows_of n M) r f k ne ∙ sym (row_other (rows_of n M) r (λ x. g (f x)) k ne)
