-- A sum of two finite values, the first of which is not -0, is not -0: what is not zero does not round to zero, since both are whole multiples of the smallest value.
-- Assumes nothing.
use Rattle.std.proofs.Common.{◌≡◌, ℕ, zero, suc, ◌+◌, ◌-◌, ◌*◌, ◌/◌, ◌%◌, ◌^◌, ◌<◌, ◌≤◌, Bool, true, false, cond, ◌&&◌, T, ltb, ℤ, sym, ap, ◌∙◌, subst, le_trans, le_of_eq, lt_irrefl, mul-le-mul_right, zero-lt-suc, mul_assoc, mul_comm, lt_of_mul-lt-mul_right, mul-lt-mul_of_pos_right, mul-pos, one-mul, le-div_iff_mul-le, zero-mul, mul_right_comm, arith, eqb→eq, ltb→lt, pow_pos}
use Prim.Native.Nat.{compare}
use native.Mathlib.Nat.{mul-sub}
use lib.Ieee.{Float, inf, fin, Format, prec, emax, low, up, down, size, nearest, odd, units, round, sum, add, fits}
use lib.Ieee.Digits.{size-lt, size_reaches}
use lib.Ieee.Exact.{HasValue, odd_sign}
use lib.Ieee.Fits.{round_is, up_pos, down_pos, two}
use lib.Ieee.Nearest.{nearest-ge}
use lib.Ieee.Scale.{finite}
use Rattle.mat_elem.specs.float.Product.{not_minus_zero}
use Rattle.mat_elem.proofs.float.Unique.{in-units, held}
use Rattle.mat_elem.proofs.float.Zero.{add_is}
use lib.Ieee.{nan}

-- ---- what has a size above 0 is no zero
value-live : (x : Float) (s : Bool) (a c : ℕ) → HasValue x s a c → 0 < a → T (not_minus_zero x)
value-live (fin false m e) s a c v h = tt
value-live (fin true (suc m) e) s a c v h = tt
value-live (fin true zero e) s a c v h =
    lt_irrefl 0 (subst (λ (z : ℕ). 0 < z) (sym v.1 ∙ ap (λ (z : ℕ). z * c) (zero-mul (up e)) ∙ zero-mul c) (mul-pos h (down_pos e)))
value-live nan s a c v h = elim v [ ]
value-live (inf _) s a c v h = elim v [ ]

units-live : (f : Format) (s : Bool) (q k : ℕ) → 0 < q → T (not_minus_zero (units f s q k))
unfolding units
units-live f s q k h = go (ltb (q * 2 ^ k) (2 ^ (low f + suc (emax f))))
  where
    go : (b : Bool) → T (not_minus_zero (cond b (odd (suc (prec f)) s q k (low f)) (inf s)))
    go true = value-live (odd (suc (prec f)) s q k (low f)) s (q * 2 ^ k) (2 ^ low f) (odd_sign (suc (prec f)) s q k (low f)) (mul-pos h (pow_pos k))
    go false = tt

-- with the sign clear, nothing is -0
plus-live : (x : Float) (a c : ℕ) → HasValue x false a c → T (not_minus_zero x)
plus-live (fin false m e) a c v = tt
plus-live (fin true (suc m) e) a c v = tt
plus-live (fin true zero e) a c v = subst T v.0 tt
plus-live nan a c v = elim v [ ]
plus-live (inf _) a c v = elim v [ ]

units-plus : (f : Format) (q k : ℕ) → T (not_minus_zero (units f false q k))
unfolding units
units-plus f q k = go (ltb (q * 2 ^ k) (2 ^ (low f + suc (emax f))))
  where
    go : (b : Bool) → T (not_minus_zero (cond b (odd (suc (prec f)) false q k (low f)) (inf false)))
    go true = plus-live (odd (suc (prec f)) false q k (low f)) (q * 2 ^ k) (2 ^ low f) (odd_sign (suc (prec f)) false q k (low f))
    go false = tt

round-plus : (f : Format) (num den : ℕ) → T (not_minus_zero (round f false num den))
round-plus f num den = subst (λ (x : Float). T (not_minus_zero x)) (sym (round_is f false num den)) (units-plus f _ _)

-- ---- a fraction of one unit at least rounds to one unit at least
some-digit : (n : ℕ) → 1 ≤ n → 0 < size n
some-digit n h = go (size n) (size-lt n)
  where
    go : (z : ℕ) → n < 2 ^ z → 0 < z
    go zero l = absurd (none n h l)
      where
        none : (n : ℕ) → 1 ≤ n → n < 1 → ⊥
        none n h l = omega arith
    go (suc z) l = zero-lt-suc z

drops-few : (z p : ℕ) → 0 < z → 2 ≤ p → z - p < z
drops-few z p h k = omega arith

pub round-live : (f : Format) (s : Bool) (num den : ℕ) → 0 < den → den ≤ num * 2 ^ low f → T (not_minus_zero (round f s num den))
round-live f s num den D h =
    let n = num * 2 ^ low f in
    let w = n / den in
    let k = size w - prec f in
    let one : 1 ≤ w = (le-div_iff_mul-le D).1 (le_trans (le_of_eq (one-mul den)) h) in
    let r : 2 ^ k ≤ w = size_reaches w k (drops-few (size w) (prec f) (some-digit w one) (two f)) in
    let m : 2 ^ k * den ≤ n = (le-div_iff_mul-le D).0 r in
    let q : 1 ≤ n / (den * 2 ^ k) = (le-div_iff_mul-le (mul-pos D (pow_pos k))).1 (le_trans (le_of_eq (one-mul (den * 2 ^ k) ∙ mul_comm den (2 ^ k))) m) in
    subst (λ (x : Float). T (not_minus_zero x)) (sym (round_is f s num den))
    (units-live f s (nearest (n / (den * 2 ^ k)) (compare (n % (den * 2 ^ k) * 2) (den * 2 ^ k))) k (le_trans q (nearest-ge (n / (den * 2 ^ k)) (compare (n % (den * 2 ^ k) * 2) (den * 2 ^ k)))))

pub sub-mul : (m n k : ℕ) → (m - n) * k ≡ m * k - n * k
sub-mul m n k = mul_comm (m - n) k ∙ mul-sub k m n ∙ ap (λ (z : ℕ). z - k * n) (mul_comm k m) ∙ ap (λ (z : ℕ). m * k - z) (mul_comm k n)

-- ---- sums. A and B are whole multiples of c units: A * 2 ^ low ≡ X * c and B * 2 ^ low ≡ Y * c
gap : (f : Format) (A B X Y c : ℕ) → 0 < c → A * 2 ^ low f ≡ X * c → B * 2 ^ low f ≡ Y * c → A < B → c ≤ (B - A) * 2 ^ low f
gap f A B X Y c C p q h =
    let l : X * c < Y * c = subst (λ (z : ℕ). z < Y * c) p (subst (λ (z : ℕ). A * 2 ^ low f < z) q (mul-lt-mul_of_pos_right h (pow_pos (low f)))) in
    let xy : X < Y = lt_of_mul-lt-mul_right c l in
    let one : 1 ≤ Y - X = omega arith in
    le_trans (le_of_eq (sym (one-mul c))) (le_trans (mul-le-mul_right c one) (le_of_eq (sub-mul Y X c ∙ ap (λ (z : ℕ). z - X * c) (sym q) ∙ ap (λ (z : ℕ). B * 2 ^ low f - z) (sym p) ∙ sym (sub-mul B A (2 ^ low f)))))

sum-live : (f : Format) (s : Bool) (A : ℕ) (t : Bool) (B X Y c : ℕ) → 0 < c → A * 2 ^ low f ≡ X * c → B * 2 ^ low f ≡ Y * c → (T s → 0 < X) → T (not_minus_zero (sum f s A t B c))
unfolding sum
sum-live f false A false B X Y c C p q h = round-plus f (A + B) c
sum-live f true A true B X Y c C p q h = round-live f true (A + B) c C (grow A B X c p (h tt))
  where
    grow : (A B X c : ℕ) → A * 2 ^ low f ≡ X * c → 0 < X → c ≤ (A + B) * 2 ^ low f
    grow A B X c p h = le_trans (le_of_eq (sym (one-mul c))) (le_trans (mul-le-mul_right c h) (le_trans (le_of_eq (sym p)) (mul-le-mul_right (2 ^ low f) (more A B))))
      where
        more : (A B : ℕ) → A ≤ A + B
        more A B = omega arith
sum-live f false A true B X Y c C p q h = go (ltb A B) (ltb→lt A B)
  where
    go : (b : Bool) → (T b → A < B) → T (not_minus_zero (cond b (round f true (B - A) c) (round f (false && ltb B A) (A - B) c)))
    go true l = round-live f true (B - A) c C (gap f A B X Y c C p q (l tt))
    go false l = round-plus f (A - B) c
sum-live f true A false B X Y c C p q h = go (ltb A B) (ltb B A) (ltb→lt B A)
  where
    go : (a b : Bool) → (T b → B < A) → T (not_minus_zero (cond a (round f false (B - A) c) (round f (true && b) (A - B) c)))
    go true b l = round-plus f (B - A) c
    go false true l = round-live f true (A - B) c C (gap f B A Y X c C q p (l tt))
    go false false l = round-plus f (A - B) c

-- ---- a value that fits, in units
low_of : (f : Format) (s : Bool) (m : ℕ) (e : ℤ) → T (fits f (fin s m e)) → down e ≤ 2 ^ low f
unfolding fits
low_of f s zero e t = le_trans (one-under (up e) (down e) (up_pos e) (eqb→eq (up e * down e) 1 t)) (pow_pos (low f))
  where
    one-under : (u d : ℕ) → 0 < u → u * d ≡ 1 → d ≤ 1
    one-under u d h e = le_trans (le_trans (le_of_eq (sym (one-mul d))) (mul-le-mul_right d h)) (le_of_eq e)
low_of f s (suc m) e t = (held f s m e t).not_low

whole-units : (l m x j y d : ℕ) → x * l ≡ j * y → m * x * d * l ≡ m * j * (y * d)
whole-units l m x j y d h =
    mul_right_comm (m * x) d l ∙ ap (λ (z : ℕ). z * d) (mul_assoc m x l ∙ ap (λ (z : ℕ). m * z) h ∙ sym (mul_assoc m j y)) ∙ mul_assoc (m * j) y d

pub add-live : (f : Format) (x y : Float) → T (finite x) → T (finite y) → T (fits f x) → T (fits f y) → T (not_minus_zero x) → T (not_minus_zero (add f x y))
add-live f (fin s m e) (fin t n d) _ _ p q k =
    let u = in-units (low f) e (low_of f s m e p) in
    let v = in-units (low f) d (low_of f t n d q) in
    subst (λ (z : Float). T (not_minus_zero z)) (sym (add_is f s m e t n d))
    (sum-live f s (m * up e * down d) t (n * up d * down e) (m * 2 ^ u.0) (n * 2 ^ v.0) (down e * down d) (mul-pos (down_pos e) (down_pos d))
    (whole-units (2 ^ low f) m (up e) (2 ^ u.0) (down e) (down d) u.1)
    (whole-units (2 ^ low f) n (up d) (2 ^ v.0) (down d) (down e) v.1 ∙ ap (λ (z : ℕ). n * 2 ^ v.0 * z) (mul_comm (down d) (down e)))
    (some s m e u.0 k))
  where
    some : (s : Bool) (m : ℕ) (e : ℤ) (j : ℕ) → T (not_minus_zero (fin s m e)) → T s → 0 < m * 2 ^ j
    some true (suc m) e j k h = mul-pos (zero-lt-suc m) (pow_pos j)
    some false _ e j k h = elim h [ ]
    some true zero e j k h = elim k [ ]
add-live f nan y h _ p q k = elim h [ ]
add-live f (inf _) y h _ p q k = elim h [ ]
add-live f (fin s m e) nan _ h p q k = elim h [ ]
add-live f (fin s m e) (inf _) _ h p q k = elim h [ ]
