-- Products of two i32: between -2^62 and 2^62, the lower end excluded, since -2^31 has no counterpart. So their differences stay within i64, and their sums
-- leave it only where both are 2^62. Assumes nothing.
use mathlib.Core.Path.{◌≡◌}
use mathlib.Core.Bool.{true}
use Prim.Native.Nat.{ℕ, zero, suc, ◌+◌, ◌*◌, ◌^◌, ◌<◌, ◌≤◌}
use native.Mathlib.Nat.{le_trans, mul-le-mul, le_of_suc-le-suc}
use native.Mathlib.Omega.{arith}
use borrow.Author.Tests.{lt-ltb}
use lib.Dec.{lit≤}
use lib.IntN.{ℤ, pos, negsuc, neg_ℤ, ◌-ℤ◌, ◌*ℤ◌}
use mir.Syntax.{w32, w64}
use mir.Val.{SFits}
use Rattle.checked.specs.Range.{within, gauss, four_within}
use Rattle.checked.proofs.Laws.{sub-ind, good}

abbrev Narrow : ℤ → Type 0
Narrow (pos n) = n ≤ 2 ^ 62
Narrow (negsuc n) = suc n < 2 ^ 62

minus : (n : ℕ) → n < 2 ^ 62 → Narrow (neg_ℤ (pos n))
minus zero h = omega arith
minus (suc n) h = h

most : (a b : ℕ) → a < 2 ^ 31 → b < 2 ^ 31 → a * suc b < 2 ^ 62
most a b h k =
    let p : a * suc b ≤ 2147483647 * 2147483648 = mul-le-mul (le_of_suc-le-suc h) k in
    le_trans (le-suc-suc p) (lit≤ tt)
  where
    le-suc-suc : {x y : ℕ} → x ≤ y → suc x ≤ suc y
    le-suc-suc h = omega arith

below : (a b : ℕ) → a ≤ 2 ^ 31 → b ≤ 2 ^ 31 → a * b ≤ 2 ^ 62
below a b h k =
    let p : a * b ≤ 2147483648 * 2147483648 = mul-le-mul h k in
    le_trans p (lit≤ tt)

narrow : (x y : ℤ) → SFits w32 x → SFits w32 y → Narrow (x *ℤ y)
narrow (pos a) (pos b) f g = below a b (omega (arith, f.sfits)) (omega (arith, g.sfits))
narrow (pos a) (negsuc b) f g = minus (a * suc b) (most a b f.sfits g.sfits)
narrow (negsuc a) (pos b) f g = minus (suc a * b) (omega (arith, most b a g.sfits f.sfits))
narrow (negsuc a) (negsuc b) f g = below (suc a) (suc b) f.sfits g.sfits

narrow_within : (z : ℤ) → Narrow z → within z ≡ true
narrow_within (pos n) h = lt-ltb n (2 ^ 63) (omega arith)
narrow_within (negsuc n) h = lt-ltb n (2 ^ 63) (omega arith)

apart : (x y : ℤ) → Narrow x → Narrow y → within (x -ℤ y) ≡ true
apart (pos a) (pos zero) h k = lt-ltb (a + 0) (2 ^ 63) (omega arith)
apart (pos a) (pos (suc b)) h k = sub-ind (λ z. within z ≡ true) a (suc b) (λ n e. lt-ltb n (2 ^ 63) (omega arith)) (λ n e. lt-ltb n (2 ^ 63) (omega arith))
apart (pos a) (negsuc b) h k = lt-ltb (a + suc b) (2 ^ 63) (omega arith)
apart (negsuc a) (pos zero) h k = sub-ind (λ z. within z ≡ true) 0 (suc a) (λ n e. lt-ltb n (2 ^ 63) (omega arith)) (λ n e. lt-ltb n (2 ^ 63) (omega arith))
apart (negsuc a) (pos (suc b)) h k = lt-ltb (suc (a + b)) (2 ^ 63) (omega arith)
apart (negsuc a) (negsuc b) h k = sub-ind (λ z. within z ≡ true) (suc b) (suc a) (λ n e. lt-ltb n (2 ^ 63) (omega arith)) (λ n e. lt-ltb n (2 ^ 63) (omega arith))

pub small-fits : (a b : ℤ) → SFits w32 a → SFits w32 b → SFits w64 (a *ℤ b)
small-fits a b f g = good (a *ℤ b) (narrow_within (a *ℤ b) (narrow a b f g))

module _ (a b c d : ℤ) (fa : SFits w32 a) (fb : SFits w32 b) (fc : SFits w32 c) (fd : SFits w32 d) where
  -- the four products and the imaginary sum of a conjugate's product cannot leave i64
  pub four-never : four_within (gauss a b) (gauss c d) ≡ true
  four-never =
      rw (narrow_within (a *ℤ c) (narrow a c fa fc), narrow_within (b *ℤ d) (narrow b d fb fd))
      (rw (narrow_within (a *ℤ d) (narrow a d fa fd), narrow_within (b *ℤ c) (narrow b c fb fc)))

  pub imaginary-never : within (a *ℤ d -ℤ b *ℤ c) ≡ true
  imaginary-never = apart (a *ℤ d) (b *ℤ c) (narrow a d fa fd) (narrow b c fb fc)
