-- How large a sum or a negation of whole numbers is, and that a small one is an i64. Assumes nothing.
use Rattle.std.proofs.Common.{◌≡◌, ℕ, ◌^◌, ◌≤◌, ℤ, pos, negsuc, neg_ℤ, nat_abs, sym, subst, le_trans, le_refl, lt_of_le_of_lt, arith, lit<, lit≤, to_z-of_z, w64, SFits, to_z, of_z}
use native.Mathlib.Nat.{le-suc}
use lib.Signed.{mag}
use Rattle.mat_elem.specs.Terms.{max_terms}
use Rattle.mat_elem.specs.Workers.{sum_max, reaches}
use Rattle.mat_elem.specs.whole.Laws.{nat_abs-neg}

pub mag-le : (z : ℤ) → mag z ≤ nat_abs z
mag-le (pos n) = le_refl n
mag-le (negsuc n) = le-suc n

pub small : (z : ℤ) → nat_abs z ≤ 2 ^ 62 → SFits w64 z
small z h = record { sfits = lt_of_le_of_lt (le_trans (mag-le z) h) (lit< tt) }

-- an i64 that is stored and read is itself
pub back : (z : ℤ) → nat_abs z ≤ 2 ^ 62 → to_z w64 (of_z w64 z) ≡ z
back z h = to_z-of_z (small z h)

pub small-neg : (z : ℤ) → nat_abs z ≤ 2 ^ 62 → SFits w64 (neg_ℤ z)
small-neg z h = small (neg_ℤ z) (subst (λ (n : ℕ). n ≤ 2 ^ 62) (sym (nat_abs-neg z)) h)

pub one-small : (a : ℤ) → reaches 1 a → nat_abs a ≤ 2 ^ 62
one-small a h = le_trans h (lit≤ tt)

pub sum-small : (n : ℕ) (a : ℤ) → n ≤ max_terms → reaches n a → nat_abs a ≤ sum_max
sum-small n a h k = omega arith
