-- What the test over all entries gives for each of them, and what the entry at two qubits' place is. Assumes nothing.
use mathlib.Core.Path.{◌≡◌, sym, ap, ap₂, ◌∙◌}
use mathlib.Core.List.{List, [], ◌∷◌}
use Prim.Native.Nat.{ℕ, zero, suc, ◌+◌, ◌*◌, ◌/◌, ◌%◌, ◌<◌}
use native.Mathlib.Nat.{add-zero, zero-add, add-suc, suc-add, le_of_suc-le-suc, not-suc-le-zero}
use native.Mathlib.Omega.{arith}
use lib.Dec.{T, eqb, eqb→eq}
use lib.ListN.{length, get_or}
use Rattle.pauli.specs.Pauli.{Pauli, of_bits, phases}
use Rattle.encoding.specs.Words.{odd, word}
use Rattle.pauli.proofs.Bools.{T-left, T-right}
use Rattle.table.specs.Workers.{rule_at, all_ruled}

from : (xs : List ℕ) (i : ℕ) → T (all_ruled i xs) → (k : ℕ) → k < length xs → get_or xs k 0 ≡ rule_at (i + k)
unfolding all_ruled
from [] i t k h = absurd (not-suc-le-zero h)
from (x ∷ xs) i t zero h = eqb→eq x (rule_at i) (T-left (eqb x (rule_at i)) (all_ruled (suc i) xs) t) ∙ ap rule_at (sym (add-zero i))
from (x ∷ xs) i t (suc k) h =
    from xs (suc i) (T-right (eqb x (rule_at i)) (all_ruled (suc i) xs) t) k (le_of_suc-le-suc h)
    ∙ ap rule_at (suc-add i k ∙ sym (add-suc i k))

pub each-ruled : (xs : List ℕ) → T (all_ruled 0 xs) → (k : ℕ) → k < length xs → get_or xs k 0 ≡ rule_at k
each-ruled xs t k h = from xs 0 t k h ∙ ap rule_at (zero-add k)

-- ---- the lowest two bits of each word say what its two lowest qubits are

odd_low : (x : ℕ) → odd (x % 4) ≡ odd x
odd_low x =
    let h : x % 4 % 2 ≡ x % 2 = omega arith in
    ap (λ (n : ℕ). eqb n 1) h

odd-low₂ : (x : ℕ) → odd (x % 4 / 2) ≡ odd (x / 2)
odd-low₂ x =
    let h : x % 4 / 2 % 2 ≡ x / 2 % 2 = omega arith in
    ap (λ (n : ℕ). eqb n 1) h

word_low : (x z : ℕ) → word 2 (x % 4) (z % 4) ≡ word 2 x z
unfolding word
word_low x z =
    ap₂ (λ (p q : Pauli). p ∷ q ∷ []) (ap₂ of_bits (odd_low x) (odd_low z)) (ap₂ of_bits (odd-low₂ x) (odd-low₂ z))

module _ (a b c d k : ℕ) (h : k ≡ ((a % 4 * 4 + b % 4) * 4 + c % 4) * 4 + d % 4) where
  pub place-small : k < 256
  place-small = omega arith

  pub place-rule : rule_at k ≡ phases (word 2 a b) (word 2 c d) % 4
  unfolding rule_at
  place-rule =
      let h₁ : k / 64 ≡ a % 4 = omega arith in
      let h₂ : k / 16 % 4 ≡ b % 4 = omega arith in
      let h₃ : k / 4 % 4 ≡ c % 4 = omega arith in
      let h₄ : k % 4 ≡ d % 4 = omega arith in
      ap₂ (λ (l r : List Pauli). phases l r % 4)
      (ap₂ (word 2) h₁ h₂ ∙ word_low a b)
      (ap₂ (word 2) h₃ h₄ ∙ word_low c d)
