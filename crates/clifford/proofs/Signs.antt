-- The sign of a row is bit 2r + 1 of the run of phase words: turned, it brings 2 more to the exponent of row r, mod 4, and no other exponent sees it. An
-- exponent is its two bits. Assumes nothing.
use mathlib.Core.Path.{◌≡◌, refl, sym, ap, ap₂, ◌∙◌}
use mathlib.Core.Bool.{Bool, true, false, cond}
use mathlib.Core.List.{List}
use Prim.Native.Nat.{ℕ, ◌+◌, ◌*◌, ◌/◌, ◌%◌, ◌^◌, ◌<◌}
use native.Mathlib.Omega.{arith}
use lib.ListN.{length, get_or}
use lib.Pow.{shr-shr}
use Rattle.encoding.specs.Words.{bit, bit_at}
use Rattle.encoding.specs.Set.{phase_units, exponent_at}
use Rattle.encoding.proofs.Odd.{xorᵇ, bit-odd}
use Rattle.encoding.proofs.Qubits.{bit-same, bit-other}
use Rattle.one_qubit.specs.Leaves.{with_turned}

two-bits : (es : List ℕ) (k : ℕ) → exponent_at es k ≡ bit (bit_at es (k / 32) (2 * (k % 32))) + 2 * bit (bit_at es (k / 32) (2 * (k % 32) + 1))
unfolding exponent_at bit_at
two-bits es k =
    let v = get_or es (k / 32) 0 in
    let j = 2 * (k % 32) in
    omega (arith, bit-odd (v / 2 ^ j), bit-odd (v / 2 ^ (j + 1)), shr-shr v j 1)

two-more : (a b s : Bool) → bit a + 2 * bit (xorᵇ b s) ≡ (bit a + 2 * bit b + cond s 2 0) % 4
two-more false false false = refl
two-more false false true = refl
two-more false true false = refl
two-more false true true = refl
two-more true false false = refl
two-more true false true = refl
two-more true true false = refl
two-more true true true = refl

module _ (es : List ℕ) (m r : ℕ) (s : Bool) (long : length es ≡ phase_units m) (hr : r < m) where
  es' : List ℕ
  es' = with_turned es (2 * r + 1) s

  in-run : (2 * r + 1) / 64 < length es
  in-run = omega arith

  same : (j i : ℕ) → (j ≡ (2 * r + 1) / 64 → i ≡ (2 * r + 1) % 64 → ⊥) → bit_at es' j i ≡ bit_at es j i
  unfolding es' with_turned
  same j i ne = bit-other es ((2 * r + 1) / 64) ((2 * r + 1) % 64) (xorᵇ (bit_at es ((2 * r + 1) / 64) ((2 * r + 1) % 64)) s) in-run j i ne

  pub sign-other : (k : ℕ) → (k ≡ r → ⊥) → exponent_at (with_turned es (2 * r + 1) s) k ≡ exponent_at es k
  unfolding es'
  sign-other k ne =
      two-bits es' k
      ∙ ap₂ (λ (a b : Bool). bit a + 2 * bit b) (same (k / 32) (2 * (k % 32)) (λ e f. omega arith)) (same (k / 32) (2 * (k % 32) + 1) (λ e f. ne (omega arith)))
      ∙ sym (two-bits es k)

  turned_bit : bit_at es' (r / 32) (2 * (r % 32) + 1) ≡ xorᵇ (bit_at es (r / 32) (2 * (r % 32) + 1)) s
  unfolding es' with_turned
  turned_bit =
      let t : r / 32 ≡ (2 * r + 1) / 64 = omega arith in
      let k : 2 * (r % 32) + 1 ≡ (2 * r + 1) % 64 = omega arith in
      ap₂ (bit_at es') t k
      ∙ bit-same es ((2 * r + 1) / 64) ((2 * r + 1) % 64) (xorᵇ (bit_at es ((2 * r + 1) / 64) ((2 * r + 1) % 64)) s) in-run
      ∙ ap (λ (b : Bool). xorᵇ b s) (sym (ap₂ (bit_at es) t k))

  pub sign-here : exponent_at (with_turned es (2 * r + 1) s) r ≡ (exponent_at es r + cond s 2 0) % 4
  unfolding es'
  sign-here =
      two-bits es' r
      ∙ ap₂ (λ (a b : Bool). bit a + 2 * bit b) (same (r / 32) (2 * (r % 32)) (λ e f. omega arith)) turned_bit
      ∙ two-more (bit_at es (r / 32) (2 * (r % 32))) (bit_at es (r / 32) (2 * (r % 32) + 1)) s
      ∙ ap (λ (e : ℕ). (e + cond s 2 0) % 4) (sym (two-bits es r))
