-- The lowest bit of a number as a Bool, and of what the bit operations give: each operation works on the lowest bits as a table says and on the halves as
-- itself (`op-odd`, `op-half`). Assumes nothing.
use mathlib.Core.Path.{◌≡◌, refl, sym, ap, ap₂, ◌∙◌}
use mathlib.Core.Bool.{Bool, true, false, not, ◌&&◌, ◌||◌}
use Prim.Native.Nat.{ℕ, zero, suc, ◌+◌, ◌-◌, ◌*◌, ◌/◌, ◌%◌, ◌^◌, ◌<◌, min, max}
use native.Mathlib.Nat.{pow-suc}
use native.Mathlib.Omega.{arith}
use lib.Arith.{digits_div, digits_mod}
use lib.Bits.{bit_and, bit_or, bit_xor, differ, and_step, or_step, xor_step}
use lib.Dec.{eqb, lit<}
use Rattle.encoding.specs.Words.{odd, bit}

-- the exclusive or, as a table that computes
abbrev pub xorᵇ : Bool → Bool → Bool
xorᵇ false b = b
xorᵇ true false = true
xorᵇ true true = false

pub bit-lt : (b : Bool) → bit b < 2
bit-lt false = lit< tt
bit-lt true = lit< tt

pub bit-odd : (x : ℕ) → x % 2 ≡ bit (odd x)
bit-odd x = go (x % 2) (omega arith)
  where
    go : (n : ℕ) → n < 2 → n ≡ bit (eqb n 1)
    go zero h = refl
    go (suc zero) h = refl
    go (suc (suc n)) h = absurd (omega arith)

pub odd-of : (x : ℕ) (b : Bool) → x % 2 ≡ bit b → odd x ≡ b
odd-of x true e = ap (λ (n : ℕ). eqb n 1) e
odd-of x false e = ap (λ (n : ℕ). eqb n 1) e

-- an operation on numbers that goes bit by bit as g does
module _ (op f : ℕ → ℕ → ℕ) (g : Bool → Bool → Bool)
    (step : (a b : ℕ) → op a b ≡ op (a / 2) (b / 2) * 2 + f (a % 2) (b % 2))
    (agree : (p q : Bool) → f (bit p) (bit q) ≡ bit (g p q)) where
  split : (a b : ℕ) → op a b ≡ op (a / 2) (b / 2) * 2 + bit (g (odd a) (odd b))
  split a b = step a b ∙ ap (λ (n : ℕ). op (a / 2) (b / 2) * 2 + n) (ap₂ f (bit-odd a) (bit-odd b) ∙ agree (odd a) (odd b))

  op-odd : (a b : ℕ) → odd (op a b) ≡ g (odd a) (odd b)
  op-odd a b = odd-of (op a b) (g (odd a) (odd b)) (ap (λ (n : ℕ). n % 2) (split a b) ∙ digits_mod (op (a / 2) (b / 2)) (bit-lt (g (odd a) (odd b))))

  op-half : (a b : ℕ) → op a b / 2 ≡ op (a / 2) (b / 2)
  op-half a b = ap (λ (n : ℕ). n / 2) (split a b) ∙ digits_div (op (a / 2) (b / 2)) (bit-lt (g (odd a) (odd b)))

min-bits : (p q : Bool) → min (bit p) (bit q) ≡ bit (p && q)
min-bits true true = refl
min-bits true false = refl
min-bits false true = refl
min-bits false false = refl

max-bits : (p q : Bool) → max (bit p) (bit q) ≡ bit (p || q)
max-bits true true = refl
max-bits true false = refl
max-bits false true = refl
max-bits false false = refl

differ-bits : (p q : Bool) → differ (bit p) (bit q) ≡ bit (xorᵇ p q)
differ-bits true true = refl
differ-bits true false = refl
differ-bits false true = refl
differ-bits false false = refl

pub and-odd : (a b : ℕ) → odd (bit_and a b) ≡ (odd a && odd b)
and-odd = op-odd bit_and min ◌&&◌ and_step min-bits

pub and-half : (a b : ℕ) → bit_and a b / 2 ≡ bit_and (a / 2) (b / 2)
and-half = op-half bit_and min ◌&&◌ and_step min-bits

pub or-odd : (a b : ℕ) → odd (bit_or a b) ≡ (odd a || odd b)
or-odd = op-odd bit_or max ◌||◌ or_step max-bits

pub or-half : (a b : ℕ) → bit_or a b / 2 ≡ bit_or (a / 2) (b / 2)
or-half = op-half bit_or max ◌||◌ or_step max-bits

pub xor-odd : (a b : ℕ) → odd (bit_xor a b) ≡ xorᵇ (odd a) (odd b)
xor-odd = op-odd bit_xor differ xorᵇ xor_step differ-bits

pub xor-half : (a b : ℕ) → bit_xor a b / 2 ≡ bit_xor (a / 2) (b / 2)
xor-half = op-half bit_xor differ xorᵇ xor_step differ-bits

not-bits : (p : Bool) (n : ℕ) → n + bit p ≡ 1 → n ≡ bit (not p)
not-bits true n e = omega arith
not-bits false n e = omega arith

pub not-odd : (d a : ℕ) → a < 2 ^ suc d → odd ((2 ^ suc d - 1) - a) ≡ not (odd a)
not-odd d a h =
    odd-of ((2 ^ suc d - 1) - a) (not (odd a))
    (not-bits (odd a) (((2 ^ suc d - 1) - a) % 2) (ap (λ (n : ℕ). ((2 ^ suc d - 1) - a) % 2 + n) (sym (bit-odd a)) ∙ omega (arith, pow-suc 2 d)))

pub not-half : (d a : ℕ) → a < 2 ^ suc d → ((2 ^ suc d - 1) - a) / 2 ≡ (2 ^ d - 1) - a / 2
not-half d a h = omega (arith, pow-suc 2 d)
