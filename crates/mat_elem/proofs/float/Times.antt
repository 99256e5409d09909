-- A product by a power of i is the turned number, but for the signs of zeros. Assumes nothing.
-- Each part is one of c's times 1 or -1, exact, plus one times a zero, which changes at most the sign of a zero.
use Rattle.std.proofs.Common.{◌≡◌, ℕ, zero, suc, ◌+◌, ◌*◌, ◌<◌, Bool, true, false, not, T, ℤ, pos, sym, refl, ap, ◌∙◌, subst, mul-zero, zero-mul, mul-one, pow_pos}
use lib.Ieee.{Float, nan, inf, fin, Format, binary64, emax, low, up, down, unlike, round, neg, add, sub, mul, fits}
use lib.Ieee.Scale.{finite}
use lib.Ieee.Exact.{round_exact}
use lib.Ieee.Fits.{round-fits, down_pos}
use Rattle.mat_elem.specs.float.Sums.{complex, turned_by}
use Rattle.mat_elem.specs.float.Product.{times, one_f, unit}
use Rattle.checked.specs.declared.Complex.{Complex}
use Rattle.mat_elem.proofs.float.Unique.{unique, round-own}
use Rattle.mat_elem.proofs.float.Zero.{zero_of, zero_is, Near, near-l, near-r}

-- a finite f64
pub record Plain (x : Float) : Type 0 where
  pub is_finite : T (finite x)
  pub is-f64 : T (fits binary64 x)

-- ---- products by 1, -1 and 0
zero-fine : (f : Format) (s : Bool) → T (fits f (zero_of s))
unfolding fits
zero-fine f s = tt

round-zero : (s : Bool) (c : ℕ) → 0 < c → round binary64 s 0 c ≡ zero_of s
round-zero s c C =
    unique binary64 (round binary64 s 0 c) (zero_of s) s 0 c C (round-fits binary64 s 0 c) (zero-fine binary64 s)
    (round_exact binary64 s 0 c 0 0 C (pow_pos 53) (pow_pos (low binary64 + suc (emax binary64))) (simp zero-mul)) (refl, simp zero-mul)

mul_is : (s : Bool) (m : ℕ) (e : ℤ) (t : Bool) (n : ℕ) (d : ℤ) → mul binary64 (fin s m e) (fin t n d) ≡ round binary64 (unlike s t) (m * up e * (n * up d)) (down e * down d)
unfolding mul
mul_is s m e t n d = refl

mul-by-zero : (z : Bool) (y : Float) → T (finite y) → (u : Bool) × (mul binary64 y (zero_of z) ≡ zero_of u)
mul-by-zero z (fin s m e) h = (unlike s z, mul_is s m e z 0 (pos 0) ∙ rw (mul-zero, mul-one) (round-zero (unlike s z) (down e) (down_pos e)))
mul-by-zero z nan h = elim h [ ]
mul-by-zero z (inf _) h = elim h [ ]

signed : Bool → Float → Float
signed true y = neg y
signed false y = y

zero-signs : (s t : Bool) → mul binary64 (zero_of s) (one_f t) ≡ signed t (zero_of s)
unfolding mul neg signed
zero-signs true true = refl
zero-signs true false = refl
zero-signs false true = refl
zero-signs false false = refl

unlike-signs : (s t : Bool) (m : ℕ) (e : ℤ) → fin (unlike s t) m e ≡ signed t (fin s m e)
unfolding neg signed
unlike-signs true true m e = refl
unlike-signs true false m e = refl
unlike-signs false true m e = refl
unlike-signs false false m e = refl

other_sign : (f : Format) (s t : Bool) (m : ℕ) (e : ℤ) → T (fits f (fin s m e)) → T (fits f (fin t m e))
unfolding fits
other_sign f s t zero e h = h
other_sign f s t (suc m) e h = h

mul-by-one : (y : Float) → T (finite y) → T (fits binary64 y) → (t : Bool) → mul binary64 y (one_f t) ≡ signed t y
mul-by-one (fin s zero e) h k t = ap (λ (z : Float). mul binary64 z (one_f t)) (zero_is binary64 s e k) ∙ zero-signs s t ∙ ap (signed t) (sym (zero_is binary64 s e k))
mul-by-one (fin s (suc m) e) h k t =
    mul_is s (suc m) e t 1 (pos 0) ∙ rw (mul-one, mul-one) (round-own binary64 (unlike s t) m e (other_sign binary64 s (unlike s t) (suc m) e k) ∙ unlike-signs s t (suc m) e)
mul-by-one nan h k t = elim h [ ]
mul-by-one (inf _) h k t = elim h [ ]

-- ---- negation
neg-plain : (y : Float) → Plain y → Plain (neg y)
unfolding neg
neg-plain nan p = absurd p.is_finite
neg-plain (inf s) p = absurd p.is_finite
neg-plain (fin s m e) p = record { is_finite = tt; is-f64 = other_sign binary64 s (not s) m e p.is-f64 }

neg-zero : (u : Bool) → neg (zero_of u) ≡ zero_of (not u)
unfolding neg
neg-zero u = refl

neg-neg : (y : Float) → neg (neg y) ≡ y
unfolding neg
neg-neg nan = refl
neg-neg (inf true) = refl
neg-neg (inf false) = refl
neg-neg (fin true m e) = refl
neg-neg (fin false m e) = refl

sub_is : (x y : Float) → sub binary64 x y ≡ add binary64 x (neg y)
unfolding sub
sub_is x y = refl

-- ---- a product by a power of i is the turned number, but for the signs of zeros
module _ (z : Bool) (a b : Float) (p : Plain a) (q : Plain b) where
  first-with : (t : Bool) → Plain (signed t a) → Near (sub binary64 (mul binary64 a (one_f t)) (mul binary64 b (zero_of z))) (signed t a)
  first-with t r =
      let w = mul-by-zero z b q.is_finite in
      rw (mul-by-one a p.is_finite p.is-f64 t, w.1, sub_is, neg-zero) (near-r (signed t a) r.is_finite r.is-f64 (not w.0))

  second-with : (t : Bool) → Plain (signed t b) → Near (add binary64 (mul binary64 a (zero_of z)) (mul binary64 b (one_f t))) (signed t b)
  second-with t r =
      let w = mul-by-zero z a p.is_finite in
      rw (mul-by-one b q.is_finite q.is-f64 t, w.1) (near-l (signed t b) r.is_finite r.is-f64 w.0)

  second-less : (t : Bool) → Plain (neg (signed t b)) → Near (sub binary64 (mul binary64 a (zero_of z)) (mul binary64 b (one_f t))) (neg (signed t b))
  second-less t r =
      let w = mul-by-zero z a p.is_finite in
      rw (mul-by-one b q.is_finite q.is-f64 t, w.1, sub_is) (near-l (neg (signed t b)) r.is_finite r.is-f64 w.0)

  first_more : (t : Bool) → Plain (signed t a) → Near (add binary64 (mul binary64 a (one_f t)) (mul binary64 b (zero_of z))) (signed t a)
  first_more t r =
      let w = mul-by-zero z b q.is_finite in
      rw (mul-by-one a p.is_finite p.is-f64 t, w.1) (near-r (signed t a) r.is_finite r.is-f64 w.0)

  abbrev both : Complex Float
  both = complex a b

  pub times-near : (k : ℕ) → Near (times both (unit z k)).re (turned_by k both).re × Near (times both (unit z k)).im (turned_by k both).im
  unfolding signed
  times-near zero = (first-with false p, second-with false q)
  times-near (suc zero) = (second-less false (neg-plain b q), first_more false p)
  times-near (suc (suc zero)) = (first-with true (neg-plain a p), second-with true (neg-plain b q))
  times-near (suc (suc (suc k))) = (subst (λ (v : Float). Near (sub binary64 (mul binary64 a (zero_of z)) (mul binary64 b (one_f true))) v) (neg-neg b) (second-less true (subst Plain (sym (neg-neg b)) q)), first_more true (neg-plain a p))

pub turned_plain : (a b : Float) → Plain a → Plain b → (k : ℕ) → Plain (turned_by k (complex a b)).re × Plain (turned_by k (complex a b)).im
turned_plain a b p q zero = (p, q)
turned_plain a b p q (suc zero) = (neg-plain b q, p)
turned_plain a b p q (suc (suc zero)) = (neg-plain a p, neg-plain b q)
turned_plain a b p q (suc (suc (suc k))) = (q, neg-plain a p)
