-- A word by exclusive or with a mask of one bit or of none: bit k is turned where b holds, since the mask's bit j is b where j is k and else none, and two
-- words with the same bits are the same. Assumes nothing.
use mathlib.Core.Path.{◌≡◌, refl, sym, ap, ◌∙◌}
use mathlib.Core.Bool.{Bool, true, false, cond}
use mathlib.Core.List.{List}
use Prim.Native.Nat.{ℕ, ◌*◌, ◌/◌, ◌%◌, ◌^◌, ◌<◌}
use native.Mathlib.Decide.{ℕ_discrete}
use native.Mathlib.Omega.{arith}
use borrow.Author.Tests.{eq-eqb, ne_eqb}
use lib.Bits.{bit_xor, xor_shr, xor_lt}
use lib.Dec.{eqb}
use lib.ListN.{length, get_or, length-set}
use lib.Pow.{pow-lt}
use mir.Val.{bool_byte}
use Rattle.encoding.specs.Words.{odd, bit_at, with_bit}
use Rattle.encoding.proofs.BitLaws.{zero_bit}
use Rattle.encoding.proofs.Odd.{xorᵇ, xor-odd}
use Rattle.encoding.proofs.OneBit.{mask-bit, mask_is, same_bits, bit-with, with-lt}
use Rattle.one_qubit.specs.Leaves.{with_turned}

pub xor-none : (a : Bool) → xorᵇ a false ≡ a
xor-none false = refl
xor-none true = refl

-- the mask
mask : Bool → ℕ → ℕ
mask b k = cond b (2 ^ k) 0

mask-code : (b : Bool) (k : ℕ) → k < 64 → (bool_byte b * 2 ^ k) % 18446744073709551616 ≡ mask b k
unfolding mask
mask-code true k h = mask_is k h
mask-code false k h = omega arith

mask-small : (b : Bool) (k : ℕ) → k < 64 → mask b k < 2 ^ 64
unfolding mask
mask-small true k h = pow-lt h
mask-small false k h = omega arith

bit-turned : (v k : ℕ) (b : Bool) (j : ℕ) → xorᵇ (odd (v / 2 ^ j)) (odd (mask b k / 2 ^ j)) ≡ cond (eqb j k) (xorᵇ (odd (v / 2 ^ k)) b) (odd (v / 2 ^ j))
unfolding mask
bit-turned v k b j = ap (xorᵇ (odd (v / 2 ^ j))) (of_mask b) ∙ go (ℕ_discrete j k)
  where
    of_mask : (b : Bool) → odd (cond b (2 ^ k) 0 / 2 ^ j) ≡ cond (eqb j k) b false
    of_mask true = mask-bit k j ∙ itself (eqb j k)
      where
        itself : (c : Bool) → c ≡ cond c true false
        itself true = refl
        itself false = refl
    of_mask false = zero_bit j ∙ none (eqb j k)
      where
        none : (c : Bool) → false ≡ cond c false false
        none true = refl
        none false = refl

    go : Dec (j ≡ k) → xorᵇ (odd (v / 2 ^ j)) (cond (eqb j k) b false) ≡ cond (eqb j k) (xorᵇ (odd (v / 2 ^ k)) b) (odd (v / 2 ^ j))
    go (yes e) =
        ap (λ (c : Bool). xorᵇ (odd (v / 2 ^ j)) (cond c b false)) (eq-eqb j k e)
        ∙ ap (λ (i : ℕ). xorᵇ (odd (v / 2 ^ i)) b) e
        ∙ sym (ap (λ (c : Bool). cond c (xorᵇ (odd (v / 2 ^ k)) b) (odd (v / 2 ^ j))) (eq-eqb j k e))
    go (no ne) =
        ap (λ (c : Bool). xorᵇ (odd (v / 2 ^ j)) (cond c b false)) (ne_eqb j k ne)
        ∙ xor-none (odd (v / 2 ^ j))
        ∙ sym (ap (λ (c : Bool). cond c (xorᵇ (odd (v / 2 ^ k)) b) (odd (v / 2 ^ j))) (ne_eqb j k ne))

pub code-turned : (v k : ℕ) (b : Bool) → k < 64 → v < 2 ^ 64 → bit_xor v ((bool_byte b * 2 ^ k) % 18446744073709551616) ≡ with_bit v k (xorᵇ (odd (v / 2 ^ k)) b)
code-turned v k b h l =
    let t = xorᵇ (odd (v / 2 ^ k)) b in
    ap (bit_xor v) (mask-code b k h)
    ∙ same_bits 64 (bit_xor v (mask b k)) (with_bit v k t) (xor_lt 64 v (mask b k) l (mask-small b k h)) (with-lt 64 v k t l h)
    (λ j i. ap odd (xor_shr v (mask b k) j) ∙ xor-odd (v / 2 ^ j) (mask b k / 2 ^ j) ∙ bit-turned v k b j ∙ sym (bit-with v k t j))

pub turned-long : (xs : List ℕ) (q : ℕ) (b : Bool) → length (with_turned xs q b) ≡ length xs
unfolding with_turned
turned-long xs q b = length-set xs (q / 64) (with_bit (get_or xs (q / 64) 0) (q % 64) (xorᵇ (bit_at xs (q / 64) (q % 64)) b))
