-- Adding a zero. To a finite value that is not -0 a zero of either sign adds the same; to any finite value it adds nothing but, at most, a zero's sign.
-- Assumes nothing.
use Rattle.std.proofs.Common.{◌≡◌, ℕ, zero, suc, ◌-◌, ◌*◌, ◌<◌, ◌≤◌, Bool, true, false, T, ℤ, pos, sym, refl, ◌∙◌, subst, add-zero, zero-lt-suc, mul-pos, one-mul, zero-add, zero-mul, mul-one, arith, le-ltb, lt-ltb}
use lib.Ieee.{Float, fin, Format, binary64, up, down, round, sum, add, fits}
use lib.Ieee.Scale.{finite}
use lib.Ieee.Fits.{up_pos}
use Rattle.mat_elem.specs.float.Product.{not_minus_zero}
use Rattle.mat_elem.proofs.float.Unique.{unique, round-own}
use lib.Ieee.{inf, nan}

abbrev pub zero_of : Bool → Float
zero_of s = fin s 0 (pos 0)

-- ---- `sum`, where one of the two is 0
less-nothing : (a : ℕ) → a - 0 ≡ a
less-nothing a = omega arith

not-under : (a : ℕ) → 0 ≤ a
not-under a = omega arith

sum-zero-r : (f : Format) (s t : Bool) (a c : ℕ) → 0 < a → sum f s a t 0 c ≡ round f s a c
unfolding sum
sum-zero-r f true true a c h = rw add-zero
sum-zero-r f false false a c h = rw add-zero
sum-zero-r f true false a c h = rw (le-ltb a 0 (not-under a), lt-ltb 0 a h, less-nothing)
sum-zero-r f false true a c h = rw (le-ltb a 0 (not-under a), less-nothing)

sum-zero-l : (f : Format) (s t : Bool) (b c : ℕ) → 0 < b → sum f s 0 t b c ≡ round f t b c
unfolding sum
sum-zero-l f true true b c h = rw zero-add
sum-zero-l f false false b c h = rw zero-add
sum-zero-l f true false b c h = rw (lt-ltb 0 b h, less-nothing)
sum-zero-l f false true b c h = rw (lt-ltb 0 b h, less-nothing)

both_zero : (f : Format) (t : Bool) (c : ℕ) → sum f false 0 t 0 c ≡ round f false 0 c
unfolding sum
both_zero f true c = refl
both_zero f false c = refl

size-pos : (m : ℕ) (e : ℤ) → 0 < suc m * up e
size-pos m e = mul-pos (zero-lt-suc m) (up_pos e)

-- ---- `add`, where one of the two is a zero. `unfolding add` opens `sum` and `round` too, so `add` is opened here alone
pub add_is : (f : Format) (s : Bool) (m : ℕ) (e : ℤ) (t : Bool) (n : ℕ) (d : ℤ) → add f (fin s m e) (fin t n d) ≡ sum f s (m * up e * down d) t (n * up d * down e) (down e * down d)
unfolding add
add_is f s m e t n d = refl

with-zero-r : (f : Format) (t : Bool) (m : ℕ) (e : ℤ) (s : Bool) → add f (fin t m e) (zero_of s) ≡ sum f t (m * up e) s 0 (down e)
with-zero-r f t m e s = add_is f t m e s 0 (pos 0) ∙ simp (mul-one, zero-mul)

with-zero-l : (f : Format) (t : Bool) (m : ℕ) (e : ℤ) (s : Bool) → add f (zero_of s) (fin t m e) ≡ sum f s 0 t (m * up e) (down e)
with-zero-l f t m e s = add_is f s 0 (pos 0) t m e ∙ simp (mul-one, one-mul, zero-mul)

-- ---- either sign of a zero
add-either : (f : Format) (x : Float) → T (finite x) → T (not_minus_zero x) → (s t : Bool) → add f x (zero_of s) ≡ add f x (zero_of t)
add-either f (fin false zero e) h n s t =
    with-zero-r f false 0 e s ∙ rw zero-mul (both_zero f s (down e) ∙ sym (both_zero f t (down e))) ∙ sym (with-zero-r f false 0 e t)
add-either f (fin false (suc m) e) h n s t =
    with-zero-r f false (suc m) e s ∙ sum-zero-r f false s (suc m * up e) (down e) (size-pos m e)
    ∙ sym (sum-zero-r f false t (suc m * up e) (down e) (size-pos m e)) ∙ sym (with-zero-r f false (suc m) e t)
add-either f (fin true (suc m) e) h n s t =
    with-zero-r f true (suc m) e s ∙ sum-zero-r f true s (suc m * up e) (down e) (size-pos m e)
    ∙ sym (sum-zero-r f true t (suc m * up e) (down e) (size-pos m e)) ∙ sym (with-zero-r f true (suc m) e t)
add-either f nan h n s t = elim h [ ]
add-either f (inf _) h n s t = elim h [ ]
add-either f (fin true zero e) h n s t = elim n [ ]

-- ---- the same number, or two zeros
pub data Near : Float → Float → Type 0 where
  same : {x : Float} → Near x x
  zeros : {s t : Bool} → Near (zero_of s) (zero_of t)

pub near_add : (f : Format) (x : Float) → T (finite x) → T (not_minus_zero x) → {y z : Float} → Near y z → add f x y ≡ add f x z
near_add f x h n same = refl
near_add f x h n (zeros {s = s} {t = t}) = add-either f x h n s t

fine : (f : Format) (s : Bool) → T (fits f (zero_of s))
unfolding fits
fine f s = tt

-- a zero that fits is written in one way
pub zero_is : (f : Format) (s : Bool) (e : ℤ) → T (fits f (fin s 0 e)) → fin s 0 e ≡ zero_of s
zero_is f s e t = unique f (fin s 0 e) (zero_of s) s 0 1 (zero-lt-suc 0) t (fine f s) (refl, simp zero-mul) (refl, refl)

two-zeros : (s t : Bool) → (u : Bool) × (add binary64 (zero_of s) (zero_of t) ≡ zero_of u)
unfolding add
two-zeros true true = (true, refl)
two-zeros true false = (false, refl)
two-zeros false true = (false, refl)
two-zeros false false = (false, refl)

is-r : (t : Bool) (m : ℕ) (e : ℤ) → T (fits binary64 (fin t (suc m) e)) → (s : Bool) → add binary64 (fin t (suc m) e) (zero_of s) ≡ fin t (suc m) e
is-r t m e k s = with-zero-r binary64 t (suc m) e s ∙ sum-zero-r binary64 t s (suc m * up e) (down e) (size-pos m e) ∙ round-own binary64 t m e k

pub near-r : (y : Float) → T (finite y) → T (fits binary64 y) → (s : Bool) → Near (add binary64 y (zero_of s)) y
near-r (fin t zero e) h k s = rw (zero_is binary64 t e k, (two-zeros t s).1) zeros
near-r (fin t (suc m) e) h k s = subst (λ (z : Float). Near z (fin t (suc m) e)) (sym (is-r t m e k s)) same
near-r nan h k s = elim h [ ]
near-r (inf _) h k s = elim h [ ]

is-l : (t : Bool) (m : ℕ) (e : ℤ) → T (fits binary64 (fin t (suc m) e)) → (s : Bool) → add binary64 (zero_of s) (fin t (suc m) e) ≡ fin t (suc m) e
is-l t m e k s = with-zero-l binary64 t (suc m) e s ∙ sum-zero-l binary64 s t (suc m * up e) (down e) (size-pos m e) ∙ round-own binary64 t m e k

pub near-l : (y : Float) → T (finite y) → T (fits binary64 y) → (s : Bool) → Near (add binary64 (zero_of s) y) y
near-l (fin t zero e) h k s = rw (zero_is binary64 t e k, (two-zeros s t).1) zeros
near-l (fin t (suc m) e) h k s = subst (λ (z : Float). Near z (fin t (suc m) e)) (sym (is-l t m e k s)) same
near-l nan h k s = elim h [ ]
near-l (inf _) h k s = elim h [ ]
