-- Items of lists, and single fields: numbers, integers and floats are read where a text spells them, and nowhere else (Numbers), and what
-- writers write spells its value. A number starts with a digit, which a minus is not.
use Rattle.text.proofs.Kit.{◌≡◌, refl, sym, ap, ◌∙◌, subst, Bool, true, false, cond, not, ◌&&◌, List, [], ◌∷◌, ◌++◌, ℕ, suc, ◌+◌, ◌%◌, ◌^◌, ◌<◌, ◌≤◌, arith, T, ltb, ltb-false, ne_eqb, le-ltb, le-leb, lt-leb, drop}
use lib.IntN.{ℤ, pos, negsuc}
use lib.Signed.{mag}
use lib.Ieee.{Float, nan, inf, fin, fits, binary64, eq, ne, is_nan, to_bits}
use lib.Ieee.Compare.{differs_from_itself}
use lib.Ieee.Bits.{of_bits-to_bits, to_bits-lt, nan_bits_above, nan_bits_is}
use Rattle.text.specs.Readers.{Got, none, got, starts, mapped}
use Rattle.text.specs.Numbers.{digits, numeral, digit_of, number, Spells, Stops, no_digit, integral, minus, integer, SpellsInteger, plain, behind-minus, float_of, float, SpellsFloat, pattern}
use Rattle.text.specs.Lists.{dash}
use Rattle.text.proofs.Numbers.{Split, number-back, number-only, numeral-spells, digits-spell}
use Rattle.text.proofs.Lists.{Agree, starts-cons}

module _ (b : ℕ) (ten : 10 ≤ b) (sixteen : b ≤ 16) where
  no-minus-first : (top : ℕ) (w : List ℕ) {v : ℕ} (t : List ℕ) → Spells b top v w → starts 45 (w ++ t) ≡ false
  unfolding digit_of
  no-minus-first top [] t r = absurd (omega (arith, r.some))
  no-minus-first top (c ∷ w) t r = ne_eqb c 45 (λ e. omega (arith, ap digit_of e, r.all.0))

  stops-comma : (t : List ℕ) → Stops b (44 ∷ t)
  unfolding digit_of
  stops-comma t = le-ltb 16 b sixteen

  pub stops-plain : (t : List ℕ) → Stops b t → no_digit t ≡ true
  stops-plain [] h = refl
  stops-plain (c ∷ t) h = le-leb 10 (digit_of c) (omega (arith, ltb-false (digit_of c) b h))

  apart-number : (top : ℕ) (w : List ℕ) {v : ℕ} (t : List ℕ) → Spells b top v w → dash (w ++ t) ≡ false
  apart-number top w t r = ap (λ (c : Bool). c && no_digit (drop 1 (w ++ t))) (no-minus-first top w t r)

  pub numbers : (top : ℕ) → Agree (number b top) (Spells b top) (Stops b)
  numbers top =
      record {
        back = number-back b top (omega arith);
        only = number-only b top (omega arith);
        apart = apart-number top;
        comma = stops-comma;
        plain = stops-plain;
      }

-- ---- what is read of a number and taken for another value

record Through {A : Type 0} (f : ℕ → A) (b top : ℕ) (s : List ℕ) (z : A) (t : List ℕ) : Type 0 where
  bits : ℕ
  text : List ℕ
  is : s ≡ text ++ t
  value : z ≡ f bits
  spells : Spells b top bits text
  ends : Stops b t

through : {A : Type 0} (f : ℕ → A) (b top : ℕ) → 2 ≤ b → (s : List ℕ) (z : A) (t : List ℕ) (g : Got ℕ) → number b top s ≡ g → mapped f g ≡ got z t → Through f b top s z t
through f b top h s z t none e k = let y : ◌≡◌ {A = ℕ} 0 1 = cc in absurd (omega arith)
through f b top h s z t (got v u) e k =
    let p : u ≡ t = cc in
    let q : f v ≡ z = cc in
    let o = number-only b top h s v u e in
    record { bits = v; text = o.text; is = rw (← p) o.is; value = sym q; spells = o.item; ends = rw (← p) o.ends }

-- ---- integers

module _ (top : ℕ) where
  integer-back : (w : List ℕ) {z : ℤ} (t : List ℕ) → SpellsInteger top z w → Stops 10 t → integer top (w ++ t) ≡ got z t
  unfolding integer
  integer-back w t (plain n e r) h =
      rw (no-minus-first 10 (omega arith) (omega arith) top w t r, number-back 10 top (omega arith) w t r h, e)
  integer-back w t (behind-minus n u e f r) h = rw (f, number-back 10 (top + 1) (omega arith) u t r h, e)

  integer-only : (s : List ℕ) (z : ℤ) (t : List ℕ) → integer top s ≡ got z t → Split (SpellsInteger top) (Stops 10) s z t
  unfolding integer
  integer-only s z t e = go (starts 45 s) refl e
    where
      go : (b : Bool) → starts 45 s ≡ b → cond b (mapped minus (number 10 (top + 1) (drop 1 s))) (mapped pos (number 10 top s)) ≡ got z t → Split (SpellsInteger top) (Stops 10) s z t
      go true i k =
          let o = through minus 10 (top + 1) (omega arith) (drop 1 s) z t (number 10 (top + 1) (drop 1 s)) refl k in
          record { text = 45 ∷ o.text; is = starts-cons 45 s i ∙ ap (λ (l : List ℕ). 45 ∷ l) o.is; item = behind-minus o.bits o.text o.value refl o.spells; ends = o.ends }
      go false i k =
          let o = through pos 10 top (omega arith) s z t (number 10 top s) refl k in
          record { text = o.text; is = o.is; item = plain o.bits o.value o.spells; ends = o.ends }

  digit-first : (limit : ℕ) (w : List ℕ) {v : ℕ} (t : List ℕ) → Spells 10 limit v w → no_digit (w ++ t) ≡ false
  digit-first limit [] t r = absurd (omega (arith, r.some))
  digit-first limit (c ∷ w) t r = lt-leb 10 (digit_of c) r.all.0

  apart-integer : (w : List ℕ) {z : ℤ} (t : List ℕ) → SpellsInteger top z w → dash (w ++ t) ≡ false
  apart-integer w t (plain n e r) = apart-number 10 (omega arith) (omega arith) top w t r
  apart-integer w t (behind-minus n u e f r) = rw f (digit-first (top + 1) u t r)

  pub integers : Agree (integer top) (SpellsInteger top) (Stops 10)
  integers =
      record {
        back = integer-back;
        only = integer-only;
        apart = apart-integer;
        comma = stops-comma 10 (omega arith) (omega arith);
        plain = stops-plain 10 (omega arith) (omega arith);
      }

  pub integral-spells : top + 1 < 10 ^ 20 → (z : ℤ) → mag z ≤ top → SpellsInteger top z (integral z)
  integral-spells h (pos n) k = plain n refl (numeral-spells 10 (omega arith) (omega arith) top n 19 (omega arith) (omega arith) (omega arith) k)
  integral-spells h (negsuc n) k =
      behind-minus (suc n) (numeral 10 (suc n)) refl refl (numeral-spells 10 (omega arith) (omega arith) (top + 1) (suc n) 19 (omega arith) (omega arith) (omega arith) (omega arith))

-- ---- floats

float_back : (w : List ℕ) {x : Float} (t : List ℕ) → SpellsFloat x w → Stops 16 t → float (w ++ t) ≡ got x t
unfolding float
float_back w t r h = rw (number-back 16 18446744073709551615 (omega arith) w t r.spells h, r.is)

float-only : (s : List ℕ) (x : Float) (t : List ℕ) → float s ≡ got x t → Split SpellsFloat (Stops 16) s x t
unfolding float
float-only s x t e =
    let o = through float_of 16 18446744073709551615 (omega arith) s x t (number 16 18446744073709551615 s) refl e in
    record { text = o.text; is = o.is; item = record { bits = o.bits; is = o.value; spells = o.spells }; ends = o.ends }

pub floats : Agree float SpellsFloat (Stops 16)
floats =
    record {
      back = float_back;
      only = float-only;
      apart = λ w t r. apart-number 16 (omega arith) (omega arith) 18446744073709551615 w t r.spells;
      comma = stops-comma 16 (omega arith) (omega arith);
      plain = stops-plain 16 (omega arith) (omega arith);
    }

-- the bits of a float are not a NaN's where it is none
not-nan : (x : Float) → eq x x ≡ true → is_nan x ≡ false
unfolding eq is_nan
not-nan nan e = sym e
not-nan (inf s) e = refl
not-nan (fin s m k) e = refl

real-bits : (x : Float) → T (fits binary64 x) → is_nan x ≡ false → float_of (to_bits binary64 x) ≡ x
unfolding float_of
real-bits x h k =
    let n = to_bits binary64 x in
    let b = of_bits-to_bits binary64 x h in
    let e : ltb 9218868437227405312 (n % 9223372036854775808) ≡ false =
    sym (nan_bits_above binary64 n) ∙ (nan_bits_is binary64 n ∙ (ap is_nan b ∙ k)) in
    rw (le-leb (n % 9223372036854775808) 9218868437227405312 (ltb-false 9218868437227405312 (n % 9223372036854775808) e), b)

nan-bits : float_of 9221120237041090560 ≡ nan
unfolding float_of
nan-bits = refl

-- a float's 16 digits spell it: every f64 is given back, and every NaN is the one NaN
pub pattern-spells : (x : Float) → T (fits binary64 x) → SpellsFloat x (digits 16 16 (pattern x))
unfolding ne
pattern-spells x h = go (eq x x) refl
  where
    go : (b : Bool) → eq x x ≡ b → SpellsFloat x (digits 16 16 (cond b (to_bits binary64 x) 9221120237041090560))
    go true e =
        record {
          bits = to_bits binary64 x;
          is = sym (real-bits x h (not-nan x e));
          spells = digits-spell 16 (omega arith) (omega arith) 18446744073709551615 16 (to_bits binary64 x) (omega arith) (omega arith) (omega (arith, to_bits-lt binary64 x h)) (omega (arith, to_bits-lt binary64 x h));
        }
    go false e =
        record {
          bits = 9221120237041090560;
          is = differs_from_itself x (subst T (sym (ap not e)) tt) ∙ sym nan-bits;
          spells = digits-spell 16 (omega arith) (omega arith) 18446744073709551615 16 9221120237041090560 (omega arith) (omega arith) (omega arith) (omega arith);
        }
