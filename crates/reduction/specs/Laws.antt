-- What the theorems ask of a kind of row: bits of a product are the XOR; products are associative; the phase exponent of a product is the sum of both
-- and of an exponent that is read off the bits of the N columns. Pauli rows have these laws (`rows-laws` of proofs/PauliRows.antt). Assumes nothing.
use Rattle.std.specs.Prelude.{ℕ, ◌+◌, ◌%◌, ◌<◌, ◌≡◌, Bool, false}
use Rattle.std.specs.Bool.{xor}

pub record Laws {R : Type 0} (bit : R → ℕ → Bool) (mul : R → R → R) (ph : R → ℕ) (expo : R → R → ℕ) (N : ℕ) : Type 0 where
  pub bit-mul : (a b : R) (c : ℕ) → bit (mul a b) c ≡ xor (bit a c) (bit b c)
  pub assoc : (a b c : R) → mul (mul a b) c ≡ mul a (mul b c)
  pub ph-mul : (a b : R) → ph (mul a b) ≡ (ph a + ph b + expo a b) % 4
  -- the exponent is read off the bits, and is 0 where the right row has none
  pub expo-bits : (a a' b b' : R) → ((c : ℕ) → c < N → bit a c ≡ bit a' c) → ((c : ℕ) → c < N → bit b c ≡ bit b' c) → expo a b ≡ expo a' b'
  pub expo-none : (a b : R) → ((c : ℕ) → c < N → bit b c ≡ false) → expo a b ≡ 0
