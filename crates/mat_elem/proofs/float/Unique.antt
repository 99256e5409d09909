-- A value that a format holds is the only one with its sign and size, so rounding its own size gives it back. Of any format.
-- Assumes nothing.
use Rattle.std.proofs.Common.{◌≡◌, ℕ, suc, ◌+◌, ◌-◌, ◌*◌, ◌/◌, ◌%◌, ◌^◌, ◌<◌, ◌≤◌, Bool, cond, ◌&&◌, T, eqb, ltb, leb, ℤ, pos, negsuc, sym, refl, ap, ◌∙◌, subst, mul_assoc, mul_comm, lt_of_mul-lt-mul_right, mul-lt-mul_of_pos_right, one-mul, mul-one, mul_right_comm, not-le_of_lt, arith, ltb→lt, leb→le, pow_pos, pow-add}
use native.Mathlib.Nat.{eq_of_mul-eq-mul_right}
use lib.Pow.{pow-lt}
use lib.Ieee.{Float, fin, Format, prec, emax, low, up, down, size, round, to_bits, of_bits, fits, top, hid}
use lib.Ieee.Exact.{HasValue, round_exact}
use lib.Ieee.Fits.{round-fits, down_pos, and_l, and_r}
use lib.Ieee.Nearest.{div_same}
use lib.Ieee.Bits.{of_bits-to_bits}
use lib.Ieee.{inf, nan}

-- the bits go by the sign and by the size in units of the format's smallest value
bits_of : (f : Format) (s : Bool) (n : ℕ) → ℕ
bits_of f s n = cond s (top f) 0 + (size n - prec f) * hid f + n / 2 ^ (size n - prec f)

bits_is : (f : Format) (s : Bool) (m : ℕ) (e : ℤ) → to_bits f (fin s m e) ≡ bits_of f s (m * up e * 2 ^ low f / down e)
unfolding to_bits bits_of
bits_is f s m e = refl

cross : (x y p q a c : ℕ) → 0 < c → x * c ≡ a * p → y * c ≡ a * q → x * q ≡ y * p
cross x y p q a c C h k =
    eq_of_mul-eq-mul_right c C (x * q) (y * p)
    (mul_right_comm x q c ∙ ap (λ (z : ℕ). z * q) h ∙ mul_right_comm a p q ∙ ap (λ (z : ℕ). z * p) (sym k) ∙ mul_right_comm y c p)

pub unique : (f : Format) (x y : Float) (s : Bool) (a c : ℕ) → 0 < c → T (fits f x) → T (fits f y) → HasValue x s a c → HasValue y s a c → x ≡ y
unique f (fin t m e) (fin u n d) s a c C p q v w =
    let h : m * up e * down d ≡ n * up d * down e = cross (m * up e) (n * up d) (down e) (down d) a c C v.1 w.1 in
    let same : m * up e * 2 ^ low f / down e ≡ n * up d * 2 ^ low f / down d =
    div_same (m * up e * 2 ^ low f) (down e) (n * up d * 2 ^ low f) (down d) (down_pos e) (down_pos d)
    (mul_right_comm (m * up e) (2 ^ low f) (down d) ∙ ap (λ (z : ℕ). z * 2 ^ low f) h ∙ mul_right_comm (n * up d) (down e) (2 ^ low f)) in
    sym (of_bits-to_bits f (fin t m e) p)
    ∙ ap (of_bits f) (bits_is f t m e ∙ ap (λ (b : Bool). bits_of f b (m * up e * 2 ^ low f / down e)) (v.0 ∙ sym w.0) ∙ ap (bits_of f u) same ∙ sym (bits_is f u n d))
    ∙ of_bits-to_bits f (fin u n d) q
unique f nan y s a c C p q v w = elim v [ ]
unique f (inf _) y s a c C p q v w = elim v [ ]
unique f (fin t m e) nan s a c C p q v w = elim w [ ]
unique f (fin t m e) (inf _) s a c C p q v w = elim w [ ]

-- ---- a value in units of the smallest one
pow_le_back : (a l : ℕ) → 2 ^ a ≤ 2 ^ l → a ≤ l
pow_le_back a l h = le-back a l (λ (g : l < a). not-le_of_lt (pow-lt g) h)
  where
    le-back : (a l : ℕ) → (l < a → ⊥) → a ≤ l
    le-back a l n = omega arith

pub in-units : (l : ℕ) (e : ℤ) → down e ≤ 2 ^ l → (j : ℕ) × (up e * 2 ^ l ≡ 2 ^ j * down e)
in-units l (pos k) h = (k + l, sym (pow-add 2 k l) ∙ sym (mul-one (2 ^ (k + l))))
in-units l (negsuc k) h =
    let g : suc k ≤ l = pow_le_back (suc k) l h in
    let r : l - suc k + suc k ≡ l = omega arith in
    (l - suc k, one-mul (2 ^ l) ∙ ap (λ (z : ℕ). 2 ^ z) (sym r) ∙ pow-add 2 (l - suc k) (suc k))

-- what it says that a value with an m above 0 fits
pub record Held (f : Format) (m : ℕ) (e : ℤ) : Type 0 where
  pub short : m < 2 ^ prec f
  pub not_low : down e ≤ 2 ^ low f
  pub not-high : m * up e < 2 ^ suc (emax f) * down e

pub held : (f : Format) (s : Bool) (m : ℕ) (e : ℤ) → T (fits f (fin s (suc m) e)) → Held f (suc m) e
unfolding fits
held f s m e t =
    let A = eqb (suc m % 2) 1 in
    let B = ltb (suc m) (2 ^ prec f) in
    let C = leb (down e) (2 ^ low f) in
    let D = ltb (suc m * up e) (2 ^ suc (emax f) * down e) in
    let abc = and_l (A && B && C) D t in
    record {
      short = ltb→lt (suc m) (2 ^ prec f) (and_r A B (and_l (A && B) C abc));
      not_low = leb→le (down e) (2 ^ low f) (and_r (A && B) C abc);
      not-high = ltb→lt (suc m * up e) (2 ^ suc (emax f) * down e) (and_r (A && B && C) D t);
    }

pub round-own : (f : Format) (s : Bool) (m : ℕ) (e : ℤ) → T (fits f (fin s (suc m) e)) → round f s (suc m * up e) (down e) ≡ fin s (suc m) e
round-own f s m e t =
    let h = held f s m e t in
    let u = in-units (low f) e h.not_low in
    let q : suc m * up e * 2 ^ low f ≡ suc m * 2 ^ u.0 * down e = mul_assoc (suc m) (up e) (2 ^ low f) ∙ ap (λ (z : ℕ). suc m * z) u.1 ∙ sym (mul_assoc (suc m) (2 ^ u.0) (down e)) in
    let fine : suc m * 2 ^ u.0 * down e < 2 ^ (low f + suc (emax f)) * down e =
    subst (λ (z : ℕ). z < 2 ^ (low f + suc (emax f)) * down e) q
    (subst (λ (z : ℕ). suc m * up e * 2 ^ low f < z) (mul_right_comm (2 ^ suc (emax f)) (down e) (2 ^ low f) ∙ ap (λ (z : ℕ). z * down e) (mul_comm (2 ^ suc (emax f)) (2 ^ low f) ∙ sym (pow-add 2 (low f) (suc (emax f)))))
    (mul-lt-mul_of_pos_right h.not-high (pow_pos (low f)))) in
    unique f (round f s (suc m * up e) (down e)) (fin s (suc m) e) s (suc m * up e) (down e) (down_pos e) (round-fits f s (suc m * up e) (down e)) t
    (round_exact f s (suc m * up e) (down e) (suc m) u.0 (down_pos e) h.short (lt_of_mul-lt-mul_right (down e) fine) q)
    (refl, refl)
