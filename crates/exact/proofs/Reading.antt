-- Adding two floats that are whole numbers gives their sum where their sizes add up to no more than 2 ^ 53: both are brought to one denominator, it
-- cancels, and a whole number of that size has no more digits than the format keeps, so rounding leaves it. Assumes nothing.
use mathlib.Core.Path.{◌≡◌, refl, sym, ap, ap₂, ◌∙◌, subst}
use mathlib.Core.Bool.{Bool, true, false, not, ◌&&◌, cond}
use Prim.Native.Nat.{ℕ, zero, suc, ◌+◌, ◌-◌, ◌*◌, ◌^◌, ◌≤◌, ◌<◌}
use native.Mathlib.Nat.{le_trans, mul-one, mul_assoc, mul_comm, add-mul, mul-pos, zero-lt-suc, le_of_lt, lt_of_mul-lt-mul_right, le_of_mul-le-mul_right, eq_of_mul-eq-mul_right}
use native.Mathlib.Omega.{arith}
use borrow.Author.Tests.{lt-ltb, le-ltb}
use lib.Dec.{T, ltb, ltb→lt, nltb→le, lit≤}
use lib.IntN.{ℤ, pos, neg_ℤ, nat_abs, sub_ℕ, ◌+ℤ◌, +ℤ_idr, +ℤ_comm, neg_ℤ-+ℤ, neg_ℤ-neg_ℤ}
use lib.Ieee.{Float, nan, inf, fin, binary64, prec, up, down, round, sum, add, neg}
use lib.Ieee.Exact.{HasValue}
use lib.Ieee.Back.{round_whole}
use lib.Ieee.Fits.{down_pos}
use lib.Ieee.Scale.{finite, round_same}
use Rattle.mat_elem.proofs.float.Zero.{add_is}
use Rattle.mat_elem.proofs.float.Never.{sub-mul}
use Rattle.exact.specs.Whole.{signed, Reads, whole, exact_max}

pub reads-finite : (x : Float) (z : ℤ) → Reads x z → T (finite x)
reads-finite (fin t m e) z r = tt
reads-finite nan z (whole s n v) = v
reads-finite (inf t) z (whole s n v) = v

-- a float is one whole number
pub reads-one : (x : Float) (z w : ℤ) → Reads x z → Reads x w → z ≡ w
reads-one nan z w (whole s a v) r = absurd v
reads-one (inf t) z w (whole s a v) r = absurd v
reads-one (fin t m e) z w (whole s a v) (whole u b r) =
    ap₂ signed (sym v.0 ∙ r.0) (eq_of_mul-eq-mul_right (down e) (down_pos e) a b (sym v.1 ∙ r.1))

neg_value : (x : Float) (s : Bool) (n : ℕ) → HasValue x s n 1 → HasValue (neg x) (not s) n 1
unfolding neg
neg_value (fin t m e) s n v = (ap not v.0, v.1)
neg_value nan s n v = elim v [ ]
neg_value (inf _) s n v = elim v [ ]

neg-signed : (s : Bool) (n : ℕ) → signed (not s) n ≡ neg_ℤ (signed s n)
neg-signed false n = refl
neg-signed true n = sym (neg_ℤ-neg_ℤ (pos n))

pub reads-neg : (x : Float) (z : ℤ) → Reads x z → Reads (neg x) (neg_ℤ z)
reads-neg x z (whole s n v) = subst (Reads (neg x)) (neg-signed s n) (whole (not s) n (neg_value x s n v))

-- ---- whole numbers, by sign and size
less : (a b : ℕ) → pos a +ℤ neg_ℤ (pos b) ≡ sub_ℕ a b
less a zero = +ℤ_idr (pos a) ∙ sym (rw (le-ltb a 0 (omega arith)) (ap pos (gone a)))
  where
    gone : (a : ℕ) → a - 0 ≡ a
    gone a = omega arith
less a (suc b) = refl

sub-below : (a b : ℕ) → a < b → sub_ℕ a b ≡ neg_ℤ (pos (b - a))
sub-below a b h = rw (lt-ltb a b h) (ap (λ (n : ℕ). neg_ℤ (pos n)) (next a b h))
  where
    next : (a b : ℕ) → a < b → suc (b - suc a) ≡ b - a
    next a b h = omega arith

sub-above : (a b : ℕ) → b ≤ a → sub_ℕ a b ≡ pos (a - b)
sub-above a b h = rw (le-ltb a b h)

-- ---- the sum of a * c / c and b * c / c
cut : (s : Bool) (n c : ℕ) → 0 < c → round binary64 s (n * c) c ≡ round binary64 s n 1
cut s n c C = round_same binary64 s (n * c) c n 1 C (zero-lt-suc 0) (mul-one (n * c))

-- a whole number within the bound has no more digits than an f64 keeps
within : exact_max ≤ 2 ^ prec binary64
within = lit≤ tt

whole_is : (s : Bool) (n c : ℕ) → 0 < c → n ≤ exact_max → Reads (round binary64 s (n * c) c) (signed s n)
whole_is s n c C h = subst (λ (x : Float). Reads x (signed s n)) (sym (cut s n c C)) (whole s n (round_whole binary64 s n (le_trans h within)))

module _ (a b c : ℕ) (C : 0 < c) (h : a + b ≤ exact_max) where
  up_to : b - a ≤ exact_max
  up_to = omega arith

  down_to : a - b ≤ exact_max
  down_to = omega arith

  over_by : (s : Bool) → Reads (round binary64 s (b * c - a * c) c) (signed s (b - a))
  over_by s = subst (λ (n : ℕ). Reads (round binary64 s n c) (signed s (b - a))) (sub-mul b a c) (whole_is s (b - a) c C up_to)

  under-by : (s : Bool) → Reads (round binary64 s (a * c - b * c) c) (signed s (a - b))
  under-by s = subst (λ (n : ℕ). Reads (round binary64 s n c) (signed s (a - b))) (sub-mul a b c) (whole_is s (a - b) c C down_to)

  joined : (s : Bool) → Reads (round binary64 s (a * c + b * c) c) (signed s (a + b))
  joined s = subst (λ (n : ℕ). Reads (round binary64 s n c) (signed s (a + b))) (add-mul a b c) (whole_is s (a + b) c C h)

  none_apart : a ≤ b → b ≤ a → a - b ≡ b - a
  none_apart l g = omega arith

  sum-reads : (s t : Bool) → Reads (sum binary64 s (a * c) t (b * c) c) (signed s a +ℤ signed t b)
  unfolding sum
  sum-reads false false = joined false
  sum-reads true true = subst (Reads (round binary64 true (a * c + b * c) c)) (neg_ℤ-+ℤ (pos a) (pos b)) (joined true)
  sum-reads false true = go (ltb (a * c) (b * c)) (ltb→lt (a * c) (b * c)) (nltb→le (a * c) (b * c))
    where
      go : (x : Bool) → (T x → a * c < b * c) → (T (not x) → b * c ≤ a * c)
          → Reads (cond x (round binary64 true (b * c - a * c) c) (round binary64 (false && ltb (b * c) (a * c)) (a * c - b * c) c)) (pos a +ℤ neg_ℤ (pos b))
      go true l g = subst (Reads (round binary64 true (b * c - a * c) c)) (sym (less a b ∙ sub-below a b (lt_of_mul-lt-mul_right c (l tt)))) (over_by true)
      go false l g = subst (Reads (round binary64 false (a * c - b * c) c)) (sym (less a b ∙ sub-above a b (le_of_mul-le-mul_right (g tt) C))) (under-by false)
  sum-reads true false = go (ltb (a * c) (b * c)) (ltb (b * c) (a * c)) (ltb→lt (a * c) (b * c)) (nltb→le (a * c) (b * c)) (ltb→lt (b * c) (a * c)) (nltb→le (b * c) (a * c))
    where
      turn : neg_ℤ (pos a) +ℤ pos b ≡ sub_ℕ b a
      turn = +ℤ_comm (neg_ℤ (pos a)) (pos b) ∙ less b a

      go : (x y : Bool) → (T x → a * c < b * c) → (T (not x) → b * c ≤ a * c) → (T y → b * c < a * c) → (T (not y) → a * c ≤ b * c)
          → Reads (cond x (round binary64 false (b * c - a * c) c) (round binary64 (true && y) (a * c - b * c) c)) (neg_ℤ (pos a) +ℤ pos b)
      go true y l g k m = subst (Reads (round binary64 false (b * c - a * c) c)) (sym (turn ∙ sub-above b a (le_of_lt (lt_of_mul-lt-mul_right c (l tt))))) (over_by false)
      go false true l g k m = subst (Reads (round binary64 true (a * c - b * c) c)) (sym (turn ∙ sub-below b a (lt_of_mul-lt-mul_right c (k tt)))) (under-by true)
      go false false l g k m =
          let p : a ≤ b = le_of_mul-le-mul_right (m tt) C in
          let q : b ≤ a = le_of_mul-le-mul_right (g tt) C in
          subst (Reads (round binary64 false (a * c - b * c) c)) (sym (turn ∙ sub-above b a p ∙ ap pos (sym (none_apart p q)))) (under-by false)

size_is : (s : Bool) (n : ℕ) → nat_abs (signed s n) ≡ n
size_is false n = refl
size_is true zero = refl
size_is true (suc n) = refl

scaled : (x p a q : ℕ) → x * 1 ≡ a * p → x * q ≡ a * (p * q)
scaled x p a q h = ap (λ (z : ℕ). z * q) (sym (mul-one x) ∙ h) ∙ mul_assoc a p q

pub reads-add : (x y : Float) (z w : ℤ) → Reads x z → Reads y w → nat_abs z + nat_abs w ≤ exact_max → Reads (add binary64 x y) (z +ℤ w)
reads-add nan y z w (whole u a v) r h = absurd v
reads-add (inf s) y z w (whole u a v) r h = absurd v
reads-add (fin s m e) nan z w l (whole k b r) h = absurd r
reads-add (fin s m e) (inf t) z w l (whole k b r) h = absurd r
reads-add (fin s m e) (fin t n d) z w (whole u a v) (whole k b r) h =
    let c = down e * down d in
    let g : a + b ≤ exact_max = subst (λ (i : ℕ). i + b ≤ exact_max) (size_is u a) (subst (λ (i : ℕ). nat_abs (signed u a) + i ≤ exact_max) (size_is k b) h) in
    subst (λ (f : Float). Reads f (signed u a +ℤ signed k b))
    (sym (add_is binary64 s m e t n d ∙ rw (v.0, r.0, scaled (m * up e) (down e) a (down d) v.1, scaled (n * up d) (down d) b (down e) r.1, mul_comm (down d) (down e))))
    (sum-reads a b c (mul-pos (down_pos e) (down_pos d)) g u k)
