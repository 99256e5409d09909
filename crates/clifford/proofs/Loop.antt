-- The loop over the rows. Rows below i are conjugated, the others are as they were; row i is next. At the end all are, and the memory is the one laid
-- from them. Assumes nothing.
use mathlib.Core.Path.{◌≡◌, sym, ap, ◌∙◌, subst}
use Prim.Native.Nat.{ℕ, ◌+◌, ◌<◌, ◌≤◌}
use native.Mathlib.Decide.{ℕ_discrete}
use native.Mathlib.Omega.{arith}
use Rattle.encoding.specs.Limits.{words_of}
use Rattle.encoding.specs.Set.{Mem, count, rows_of, lay, Sound}
use Rattle.encoding.proofs.Memory.{lay-back}
use Rattle.gates.specs.Gates.{conj_row, conj_rows}
use Rattle.gates.specs.declared.Gate.{Gate}
use Rattle.one_qubit.specs.Leaves.{at_row}
use Rattle.one_qubit.proofs.OneRow.{row_here, row_other, lay-same, fine-rows, fine-at, rows-laid, sound-laid}
use Rattle.clifford.specs.Workers.{Changed}
use Rattle.clifford.proofs.Rows.{fine-conj}

pub record Doing (n : ℕ) (g : Gate) (M₀ M : Mem) (i : ℕ) : Type 0 where
  pub sound : Sound n M
  pub done : (k : ℕ) → k < count M₀ → k < i → rows_of n M k ≡ conj_row n g (rows_of n M₀ k)
  pub left : (k : ℕ) → k < count M₀ → i ≤ k → rows_of n M k ≡ rows_of n M₀ k

module _ (n : ℕ) (g : Gate) {M₀ : Mem} where
  pub doing-more : {M M' : Mem} (i : ℕ) → Doing n g M₀ M i → count M ≡ count M₀ → i < count M₀ → Changed n i (conj_row n g) M M' → Doing n g M₀ M' (i + 1)
  doing-more {M} {M'} i d e hi c =
      let σ = rows_of n M in
      let fine = fine-at n (count M) σ i (conj_row n g) (fine-rows n d.sound) (fine-conj n g (σ i)) in
      let now : (k : ℕ) → k < count M₀ → rows_of n M' k ≡ at_row σ i (conj_row n g) k =
      λ k h. rows-laid n d.sound (at_row σ i (conj_row n g)) fine c k (subst (λ (j : ℕ). k < j) (sym e) h) in
      record {
        sound = sound-laid n d.sound (at_row σ i (conj_row n g)) fine c;
        done = λ k h l. now k h ∙ past k h l (ℕ_discrete k i);
        left = λ k h l. now k h ∙ row_other σ i (conj_row n g) k (λ q. omega arith) ∙ d.left k h (omega arith);
      }
    where
      past : (k : ℕ) → k < count M₀ → k < i + 1 → Dec (k ≡ i) → at_row (rows_of n M) i (conj_row n g) k ≡ conj_row n g (rows_of n M₀ k)
      past k h l (yes q) = row_here (rows_of n M) i (conj_row n g) k q ∙ ap (conj_row n g) (d.left k h (omega arith))
      past k h l (no ne) = row_other (rows_of n M) i (conj_row n g) k ne ∙ d.done k h (omega arith)

  pub doing-all : {M : Mem} (i : ℕ) → Doing n g M₀ M i → count M ≡ count M₀ → count M₀ ≤ i → M ≡ lay n (count M₀) (conj_rows n g (rows_of n M₀))
  doing-all {M} i d e hi =
      sym (lay-back n (words_of n) d.sound.valid)
      ∙ ap (λ (m : ℕ). lay n m (rows_of n M)) e
      ∙ lay-same n (count M₀) (rows_of n M) (conj_rows n g (rows_of n M₀)) (λ k h. d.done k h (omega arith))
