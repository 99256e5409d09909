-- The columns of the rows that a lazy state stands for, without a product: read off the row and the table's entry, or kept beside the rows by XOR.
-- Assumes nothing.
use Prim.Native.Nat.{ℕ}
use mathlib.Core.Path.{◌≡◌, refl, sym, ap, ◌∙◌}
use mathlib.Core.Logic.{⊎_elim}
use mathlib.Core.Bool.{Bool, cond, not, ◌&&◌, xor}
use mathlib.Core.Option.{some}
use mathlib.Core.List.{List, [], ◌∷◌}
use lib.Dec.{eqb}
use borrow.Author.Tests.{eq-eqb, ne_eqb}
use Rattle.pauli.proofs.Bools.{xor_ff}
use Rattle.reduction.specs.Rule.{mul_at, first}
use Rattle.reduction.proofs.Lists.{same?}
use Rattle.tabled.specs.Workers.{Lazy, put_at, row_of}
use Rattle.tabled.proofs.Steps.{put-here, put_other, mul_at-here, mul_at-other, paid-none, paid-some}

module _ {R : Type 0} (bit : R → ℕ → Bool) (mul : R → R → R) (bit-mul : (a b : R) (c : ℕ) → bit (mul a b) c ≡ xor (bit a c) (bit b c)) where
  -- a column of a row: that of the row as it lies, and that of what it owes
  pub row-bit : (s : Lazy R) (k c : ℕ) → bit (row_of mul s k) c ≡ xor (bit (s.rows k) c) (not (eqb (s.owed k) 0) && bit (s.table (s.owed k)) c)
  row-bit s k c =
      let r = s.rows k in
      let n = s.owed k in
      let T = s.table in
      ⊎_elim
      (λ e. ap (λ x. bit x c) (paid-none mul T r n e) ∙ sym (xor_ff (bit r c)) ∙ ap (λ x. xor (bit r c) (not x && bit (T n) c)) (sym (eq-eqb n 0 e)))
      (λ h. ap (λ x. bit x c) (paid-some mul T r n h) ∙ bit-mul r (T n) c ∙ ap (λ x. xor (bit r c) (not x && bit (T n) c)) (sym (ne_eqb n 0 h)))
      (same? n 0)

  -- a column c kept for every row: a product of row a by row b is an XOR
  pub bits-kept : (σ : ℕ → R) (S : ℕ → Bool) (c a b : ℕ) → ((k : ℕ) → S k ≡ bit (σ k) c) → (k : ℕ) → put_at S a (xor (S a) (S b)) k ≡ bit (mul_at mul σ a b k) c
  bits-kept σ S c a b h k =
      ⊎_elim
      (λ e. put-here S a (xor (S a) (S b)) k e ∙ ap (λ x. xor x (S b)) (h a) ∙ ap (λ x. xor (bit (σ a) c) x) (h b) ∙ sym (ap (λ x. bit x c) (mul_at-here mul σ a b k e) ∙ bit-mul (σ a) (σ b) c))
      (λ n. put_other S a (xor (S a) (S b)) k n ∙ h k ∙ sym (ap (λ x. bit x c) (mul_at-other mul σ a b k n)))
      (same? k a)

  -- the row found is the first with the kept bit
  pub first-kept : (σ : ℕ → R) (S : ℕ → Bool) (c : ℕ) → ((k : ℕ) → S k ≡ bit (σ k) c) → (ks : List ℕ) → first (λ (b : Bool) _. b) S c ks ≡ first bit σ c ks
  unfolding first
  first-kept σ S c h [] = refl
  first-kept σ S c h (k ∷ ks) = ap (λ b. cond b (some k) (first (λ (x : Bool) _. x) S c ks)) (h k) ∙ ap (λ o. cond (bit (σ k) c) (some k) o) (first-kept σ S c h ks)
