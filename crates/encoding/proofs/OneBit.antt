-- One bit of a word set or cleared: a mask has one bit (`mask-bit`), so that or and and-not change that bit alone, and two words with the same bits are the
-- same (`same_bits`). Assumes nothing.
use mathlib.Core.Path.{◌≡◌, refl, sym, ap, ap₂, ◌∙◌}
use mathlib.Core.Bool.{Bool, true, false, cond, not, ◌||◌, ◌&&◌, beq}
use Prim.Native.Nat.{ℕ, zero, suc, ◌+◌, ◌-◌, ◌*◌, ◌/◌, ◌%◌, ◌^◌, ◌<◌, zero-le, suc-le-suc}
use native.Mathlib.Nat.{pow-suc, div-one, not-suc-le-zero, le_of_suc-le-suc}
use native.Mathlib.Omega.{arith}
use lib.Arith.{lt-one, digits_div, digits_mod}
use lib.Bits.{bit_and, bit_or, and_shr, or_shr, and_lt, or_lt}
use lib.Dec.{eqb, eqb-zero-suc, eqb-suc-zero, eqb-suc-suc}
use lib.Pow.{pow-lt, ones_sub-lt}
use Rattle.pauli.proofs.Bools.{same_bit}
use Rattle.pauli.proofs.Every.{bools, at₂}
use Rattle.encoding.specs.Words.{odd, bit, with_bit}
use Rattle.encoding.proofs.Odd.{bit-lt, odd-of, and-odd, or-odd, not-odd, not-half}
use Rattle.encoding.proofs.WordLaws.{half_lt, back}
use Rattle.encoding.proofs.BitLaws.{half-bit, zero_bit}

-- the bits of a mask of one bit
mask-half : (k : ℕ) → 2 ^ suc k / 2 ≡ 2 ^ k
mask-half k = omega (arith, pow-suc 2 k)

mask-odd : (k : ℕ) → odd (2 ^ suc k / 1) ≡ false
mask-odd k = ap (λ (n : ℕ). eqb n 1) (let e : 2 ^ suc k / 1 % 2 ≡ 0 = omega (arith, pow-suc 2 k) in e)

pub mask-bit : (k j : ℕ) → odd (2 ^ k / 2 ^ j) ≡ eqb j k
mask-bit zero zero = refl
mask-bit zero (suc j) = sym (half-bit 1 j) ∙ zero_bit j ∙ sym (eqb-suc-zero j)
mask-bit (suc k) zero = mask-odd k ∙ sym (eqb-zero-suc k)
mask-bit (suc k) (suc j) = sym (half-bit (2 ^ suc k) j) ∙ ap (λ (n : ℕ). odd (n / 2 ^ j)) (mask-half k) ∙ mask-bit k j ∙ sym (eqb-suc-suc j k)

-- and of the complement
not-bit : (d a j : ℕ) → a < 2 ^ d → j < d → odd (((2 ^ d - 1) - a) / 2 ^ j) ≡ not (odd (a / 2 ^ j))
not-bit zero a j h l = absurd (not-suc-le-zero l)
not-bit (suc d) a zero h l = ap odd (div-one ((2 ^ suc d - 1) - a)) ∙ not-odd d a h ∙ ap (λ (n : ℕ). not (odd n)) (sym (div-one a))
not-bit (suc d) a (suc j) h l =
    sym (half-bit ((2 ^ suc d - 1) - a) j)
    ∙ ap (λ (n : ℕ). odd (n / 2 ^ j)) (not-half d a h)
    ∙ not-bit d (a / 2) j (half_lt d h) (le_of_suc-le-suc l)
    ∙ ap not (half-bit a j)

or-cond : (b c : Bool) → (b || c) ≡ cond c true b
or-cond b c = same_bit (b || c) (cond c true b) (at₂ bools bools (λ b c. beq (b || c) (cond c true b)) tt b c)

and-cond : (b c : Bool) → (b && not c) ≡ cond c false b
and-cond b c = same_bit (b && not c) (cond c false b) (at₂ bools bools (λ b c. beq (b && not c) (cond c false b)) tt b c)

-- ---- a word is given by its bits

pub same_bits : (d x y : ℕ) → x < 2 ^ d → y < 2 ^ d → ((k : ℕ) → k < d → odd (x / 2 ^ k) ≡ odd (y / 2 ^ k)) → x ≡ y
same_bits zero x y hx hy h = lt-one hx ∙ sym (lt-one hy)
same_bits (suc d) x y hx hy h =
    sym (back x)
    ∙ ap₂ (λ (n : ℕ) (b : Bool). n * 2 + bit b)
    (same_bits d (x / 2) (y / 2) (half_lt d hx) (half_lt d hy) (λ k l. half-bit x k ∙ h (suc k) (suc-le-suc l) ∙ sym (half-bit y k)))
    (ap odd (sym (div-one x)) ∙ h 0 (suc-le-suc zero-le) ∙ ap odd (div-one y))
    ∙ back y

-- the bits of a word with one bit made b
pub bit-with : (v k : ℕ) (b : Bool) (j : ℕ) → odd (with_bit v k b / 2 ^ j) ≡ cond (eqb j k) b (odd (v / 2 ^ j))
unfolding with_bit
bit-with v zero b zero = ap odd (div-one (v / 2 * 2 + bit b)) ∙ odd-of (v / 2 * 2 + bit b) b (digits_mod (v / 2) (bit-lt b))
bit-with v zero b (suc j) =
    sym (half-bit (v / 2 * 2 + bit b) j)
    ∙ ap (λ (n : ℕ). odd (n / 2 ^ j)) (digits_div (v / 2) (bit-lt b))
    ∙ half-bit v j
    ∙ sym (ap (λ (c : Bool). cond c b (odd (v / 2 ^ suc j))) (eqb-suc-zero j))
bit-with v (suc k) b zero =
    ap odd (div-one (with_bit (v / 2) k b * 2 + bit (odd v)))
    ∙ odd-of (with_bit (v / 2) k b * 2 + bit (odd v)) (odd v) (digits_mod (with_bit (v / 2) k b) (bit-lt (odd v)))
    ∙ ap odd (sym (div-one v))
    ∙ sym (ap (λ (c : Bool). cond c b (odd (v / 1))) (eqb-zero-suc k))
bit-with v (suc k) b (suc j) =
    sym (half-bit (with_bit (v / 2) k b * 2 + bit (odd v)) j)
    ∙ ap (λ (n : ℕ). odd (n / 2 ^ j)) (digits_div (with_bit (v / 2) k b) (bit-lt (odd v)))
    ∙ bit-with (v / 2) k b j
    ∙ ap₂ (λ (c d : Bool). cond c b d) (sym (eqb-suc-suc j k)) (half-bit v j)

pub with-lt : (d v k : ℕ) (b : Bool) → v < 2 ^ d → k < d → with_bit v k b < 2 ^ d
unfolding with_bit
with-lt zero v k b h l = absurd (not-suc-le-zero l)
with-lt (suc d) v zero b h l = omega (arith, pow-suc 2 d, bit-lt b)
with-lt (suc d) v (suc k) b h l = omega (arith, pow-suc 2 d, bit-lt (odd v), with-lt d (v / 2) k b (half_lt d h) (le_of_suc-le-suc l))

-- ---- as the code does it: with a mask of one bit

pub mask_is : (k : ℕ) → k < 64 → (1 * 2 ^ k) % 18446744073709551616 ≡ 2 ^ k
mask_is k h = let l : 2 ^ k < 2 ^ 64 = pow-lt h in omega arith

bit-on : (v k j : ℕ) → odd (bit_or v (2 ^ k) / 2 ^ j) ≡ cond (eqb j k) true (odd (v / 2 ^ j))
bit-on v k j = ap odd (or_shr v (2 ^ k) j) ∙ or-odd (v / 2 ^ j) (2 ^ k / 2 ^ j) ∙ ap (λ (c : Bool). odd (v / 2 ^ j) || c) (mask-bit k j) ∙ or-cond (odd (v / 2 ^ j)) (eqb j k)

bit-off : (v k j : ℕ) → k < 64 → j < 64 → odd (bit_and v ((2 ^ 64 - 1) - 2 ^ k) / 2 ^ j) ≡ cond (eqb j k) false (odd (v / 2 ^ j))
bit-off v k j h l =
    ap odd (and_shr v ((2 ^ 64 - 1) - 2 ^ k) j)
    ∙ and-odd (v / 2 ^ j) (((2 ^ 64 - 1) - 2 ^ k) / 2 ^ j)
    ∙ ap (λ (c : Bool). odd (v / 2 ^ j) && c) (not-bit 64 (2 ^ k) j (pow-lt h) l ∙ ap not (mask-bit k j))
    ∙ and-cond (odd (v / 2 ^ j)) (eqb j k)

pub code-on : (v k : ℕ) (b : Bool) → k < 64 → v < 2 ^ 64 → b ≡ true → bit_or v ((1 * 2 ^ k) % 18446744073709551616) ≡ with_bit v k b
code-on v k b h l e =
    rw (mask_is k h, e)
    (same_bits 64 (bit_or v (2 ^ k)) (with_bit v k true) (or_lt 64 v (2 ^ k) l (pow-lt h)) (with-lt 64 v k true l h) (λ j i. bit-on v k j ∙ sym (bit-with v k true j)))

pub code_off : (v k : ℕ) (b : Bool) → k < 64 → v < 2 ^ 64 → b ≡ false → bit_and v (18446744073709551615 - (1 * 2 ^ k) % 18446744073709551616) ≡ with_bit v k b
code_off v k b h l e =
    rw (mask_is k h, e)
    (same_bits 64 (bit_and v ((2 ^ 64 - 1) - 2 ^ k)) (with_bit v k false) (and_lt 64 v ((2 ^ 64 - 1) - 2 ^ k) l (ones_sub-lt 64 (2 ^ k))) (with-lt 64 v k false l h)
    (λ j i. bit-off v k j h i ∙ sym (bit-with v k false j)))
