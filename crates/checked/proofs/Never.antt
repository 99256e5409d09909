-- Pairs whose sizes, multiplied, stay below 2^63: no number of the twelve leaves i64. By |xy| = |x||y| and |x + y| at most |x| + |y|, part by part. And
-- what a number of the range is. Assumes nothing.
use mathlib.Core.Path.{◌≡◌, refl, sym, ap₂, ◌∙◌}
use mathlib.Core.Bool.{Bool, true, false, ◌&&◌}
use Prim.Native.Nat.{ℕ, zero, suc, ◌+◌, ◌*◌, ◌^◌, ◌<◌, ◌≤◌}
use native.Mathlib.Nat.{le_refl, le_trans, lt_of_le_of_lt, mul-le-mul, mul-add, add-mul}
use native.Mathlib.Omega.{arith}
use borrow.Author.Tests.{lt-ltb}
use lib.Dec.{leb, leb-suc-suc}
use lib.IntN.{ℤ, pos, negsuc, neg_ℤ, nat_abs, sub_ℕ, ◌+ℤ◌, ◌-ℤ◌, ◌*ℤ◌}
use lib.Signed.{le_z}
use Rattle.pauli.specs.Gauss.{Gauss, ◌⊕◌, ◌⊗◌}
use Rattle.checked.specs.Range.{within, both_within, four_within, conj_times, pair_fits, pair_of, size_of}
use Rattle.checked.proofs.Laws.{sub-ind}

-- ---- sizes of sums and products

nat_abs-neg : (z : ℤ) → nat_abs (neg_ℤ z) ≡ nat_abs z
nat_abs-neg (pos zero) = refl
nat_abs-neg (pos (suc n)) = refl
nat_abs-neg (negsuc n) = refl

pub nat_abs_mul : (x y : ℤ) → nat_abs (x *ℤ y) ≡ nat_abs x * nat_abs y
nat_abs_mul (pos a) (pos b) = refl
nat_abs_mul (pos a) (negsuc b) = nat_abs-neg (pos (a * suc b))
nat_abs_mul (negsuc a) (pos b) = nat_abs-neg (pos (suc a * b))
nat_abs_mul (negsuc a) (negsuc b) = refl

nat_abs-sub : (x y : ℕ) → nat_abs (sub_ℕ x y) ≤ x + y
nat_abs-sub x y = sub-ind (λ z. nat_abs z ≤ x + y) x y (λ k e. omega arith) (λ k e. omega arith)

nat_abs-add : (x y : ℤ) → nat_abs (x +ℤ y) ≤ nat_abs x + nat_abs y
nat_abs-add (pos a) (pos b) = omega arith
nat_abs-add (pos a) (negsuc b) = nat_abs-sub a (suc b)
nat_abs-add (negsuc a) (pos b) = le_trans (nat_abs-sub b (suc a)) (omega arith)
nat_abs-add (negsuc a) (negsuc b) = omega arith

both : (x y m n : ℕ) → x ≤ m → y ≤ n → x + y ≤ m + n
both x y m n h k = omega arith

mul-le : (x y : ℤ) {m n : ℕ} → nat_abs x ≤ m → nat_abs y ≤ n → nat_abs (x *ℤ y) ≤ m * n
mul-le x y h k = rw (nat_abs_mul x y) (mul-le-mul h k)

add-le : (x y : ℤ) {m n : ℕ} → nat_abs x ≤ m → nat_abs y ≤ n → nat_abs (x +ℤ y) ≤ m + n
add-le x y {m} {n} h k = le_trans (nat_abs-add x y) (both (nat_abs x) (nat_abs y) m n h k)

sub-le : (x y : ℤ) {m n : ℕ} → nat_abs x ≤ m → nat_abs y ≤ n → nat_abs (x -ℤ y) ≤ m + n
sub-le x y {m} {n} h k = add-le x (neg_ℤ y) h (rw (nat_abs-neg y) k)

-- ---- small numbers are in the range

pub small : (z : ℤ) {m : ℕ} → nat_abs z ≤ m → m < 2 ^ 63 → within z ≡ true
small (pos n) h k = lt-ltb n (2 ^ 63) (omega arith)
small (negsuc n) h k = lt-ltb n (2 ^ 63) (omega arith)

-- ---- a product is no larger than the sizes of its factors, multiplied, and neither is any number on the way

-- four of the products (p + q) (r + s)
abbrev Four : ℕ → ℕ → ℕ → ℕ → ℕ
Four p q r s = (p * r + q * s) + (p * s + q * r)

four_is : (p q r s : ℕ) → (p + q) * (r + s) ≡ Four p q r s
four_is p q r s = mul-add (p + q) r s ∙ ap₂ ◌+◌ (add-mul p q r) (add-mul p q s) ∙ swap (p * r) (q * r) (p * s) (q * s)
  where
    swap : (x y z w : ℕ) → (x + y) + (z + w) ≡ (x + w) + (z + y)
    swap x y z w = omega arith

module _ (u v : Gauss) where
  abbrev prod : ℕ
  prod = size_of u * size_of v

  parts : prod ≡ Four (nat_abs u.re) (nat_abs u.im) (nat_abs v.re) (nat_abs v.im)
  parts = four_is (nat_abs u.re) (nat_abs u.im) (nat_abs v.re) (nat_abs v.im)

  conj-size : size_of (conj_times u v) ≤ prod
  conj-size =
      let a = add-le (u.re *ℤ v.re) (u.im *ℤ v.im) (mul-le u.re v.re (le_refl _) (le_refl _)) (mul-le u.im v.im (le_refl _) (le_refl _)) in
      let b = sub-le (u.re *ℤ v.im) (u.im *ℤ v.re) (mul-le u.re v.im (le_refl _) (le_refl _)) (mul-le u.im v.re (le_refl _) (le_refl _)) in
      rw parts (both _ _ _ _ a b)

  pub times-size : size_of (u ⊗ v) ≤ prod
  times-size =
      let a = sub-le (u.re *ℤ v.re) (u.im *ℤ v.im) (mul-le u.re v.re (le_refl _) (le_refl _)) (mul-le u.im v.im (le_refl _) (le_refl _)) in
      let b = add-le (u.re *ℤ v.im) (u.im *ℤ v.re) (mul-le u.re v.im (le_refl _) (le_refl _)) (mul-le u.im v.re (le_refl _) (le_refl _)) in
      rw parts (both _ _ _ _ a b)

  four-small : prod < 2 ^ 63 → four_within u v ≡ true
  four-small h =
      let l = rw parts at h in
      rw (small (u.re *ℤ v.re) (mul-le u.re v.re (le_refl _) (le_refl _)) (omega (arith, l)), small (u.im *ℤ v.im) (mul-le u.im v.im (le_refl _) (le_refl _)) (omega (arith, l)))
      (rw (small (u.re *ℤ v.im) (mul-le u.re v.im (le_refl _) (le_refl _)) (omega (arith, l)), small (u.im *ℤ v.re) (mul-le u.im v.re (le_refl _) (le_refl _)) (omega (arith, l))))

pub both_small : (w : Gauss) → size_of w < 2 ^ 63 → both_within w ≡ true
both_small w h = rw (small w.re (le_refl _) (omega (arith, h)), small w.im (le_refl _) (omega (arith, h)))

pub sum-size : (u v : Gauss) → size_of (u ⊕ v) ≤ size_of u + size_of v
sum-size u v = le_trans (both _ _ _ _ (nat_abs-add u.re v.re) (nat_abs-add u.im v.im)) (omega arith)

-- a pair: no number of the twelve leaves i64, and what it adds is no larger than the three sizes multiplied
pub pair_size : (b k e : Gauss) → size_of (pair_of b k e) ≤ size_of b * size_of k * size_of e
pair_size b k e = le_trans (times-size (conj_times b k) e) (mul-le-mul (conj-size b k) (le_refl (size_of e)))

pub pair_small : (b k e : Gauss) → size_of b * size_of k < 2 ^ 63 → size_of b * size_of k * size_of e < 2 ^ 63 → pair_fits b k e ≡ true
pair_small b k e h g =
    let c = conj-size b k in
    let d : size_of (conj_times b k) * size_of e ≤ size_of b * size_of k * size_of e = mul-le-mul c (le_refl (size_of e)) in
    rw (four-small b k h, both_small (conj_times b k) (lt_of_le_of_lt c h), four-small (conj_times b k) e (lt_of_le_of_lt d g), both_small (pair_of b k e) (lt_of_le_of_lt (le_trans (times-size (conj_times b k) e) d) g))

-- ---- the range in other words
plain : (b : Bool) → b && true ≡ b
plain true = refl
plain false = refl

pub within-is : (z : ℤ) → within z ≡ le_z (negsuc 9223372036854775807) z && le_z z (pos 9223372036854775807)
within-is (pos n) = leb-suc-suc n 9223372036854775807
within-is (negsuc n) = leb-suc-suc n 9223372036854775807 ∙ sym (plain (leb n 9223372036854775807))
