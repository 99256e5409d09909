-- What a sum of so many parts of an i32 can be: the laws of `reaches`. Sizes add up, and a negation keeps the size. Assumes nothing.
use Rattle.std.proofs.Common.{◌≡◌, ℕ, zero, suc, ◌+◌, ◌-◌, ◌≤◌, Bool, true, false, cond, ltb, ℤ, pos, negsuc, ◌+ℤ◌, neg_ℤ, nat_abs, refl, le_trans, le_refl, arith}
use lib.IntN.{sub_ℕ}
use Rattle.mat_elem.specs.Workers.{reaches}

pub nat_abs-neg : (z : ℤ) → nat_abs (neg_ℤ z) ≡ nat_abs z
nat_abs-neg (pos zero) = refl
nat_abs-neg (pos (suc n)) = refl
nat_abs-neg (negsuc n) = refl

pick : (c : Bool) (x y : ℤ) (m : ℕ) → nat_abs x ≤ m → nat_abs y ≤ m → nat_abs (cond c x y) ≤ m
pick true x y m h k = h
pick false x y m h k = k

nat_abs-sub : (a b : ℕ) → nat_abs (sub_ℕ a (suc b)) ≤ a + suc b
nat_abs-sub a b = pick (ltb a (suc b)) (negsuc (suc b - suc a)) (pos (a - suc b)) (a + suc b) (omega arith) (omega arith)

pub nat_abs-add : (x y : ℤ) → nat_abs (x +ℤ y) ≤ nat_abs x + nat_abs y
nat_abs-add (pos a) (pos b) = le_refl (a + b)
nat_abs-add (pos a) (negsuc b) = nat_abs-sub a b
nat_abs-add (negsuc a) (pos b) = le_trans (nat_abs-sub b a) (omega arith)
nat_abs-add (negsuc a) (negsuc b) = omega arith

pub zero_reaches : (n : ℕ) → reaches n (pos 0)
zero_reaches n = omega arith

pub minus_reaches : (a : ℤ) → reaches 1 a → reaches 1 (neg_ℤ a)
minus_reaches a h = rw (nat_abs-neg a) h

pub plus_reaches : (n : ℕ) (a b : ℤ) → reaches n a → reaches 1 b → reaches (n + 1) (a +ℤ b)
plus_reaches n a b h k = le_trans (nat_abs-add a b) (omega arith)
