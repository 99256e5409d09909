-- A bit set at n or above: the word is above the largest of n bits. Assumes nothing.
-- By halving: a bit set at n or above is a bit at n - 1 or above of the half, down to a word that is not 0.
use Rattle.std.proofs.Common.{◌≡◌, ℕ, zero, suc, ◌+◌, ◌-◌, ◌/◌, ◌%◌, ◌^◌, ◌<◌, ◌≤◌, Bool, true, false, not, ◌&&◌, ◌||◌, ltb, leb, List, [], length, get_or, drop, sym, refl, ap, ◌∙◌, le_of_suc-le-suc, not-suc-le-zero, pow-suc, lt_of_not-le, arith, drop_of_length-le, le-leb, leb-false, leb-true}
use native.Mathlib.Decide.{dec_le}
use borrow.Author.Tests.{lt-leb}
use lib.Arith.{lt-one}
use lib.Bits.{bit_or, bit_and, and_mask}
use Rattle.encoding.specs.Words.{odd, bit, bits}
use Rattle.encoding.specs.Refusals.{some}
use Rattle.encoding.proofs.Odd.{bit-odd, and-odd, or-odd, or-half, not-odd}
use Rattle.encoding.proofs.Scan.{none_of, some-none}
use Rattle.encoding.proofs.WordLaws.{half_lt, length-bits, Fit}
use Rattle.mat_elem.specs.Terms.{set_from, high_bits}
use Rattle.mat_elem.specs.Workers.{Looked}

same-leb : (a b c d : ℕ) → (a ≤ b → c ≤ d) → (c ≤ d → a ≤ b) → leb a b ≡ leb c d
same-leb a b c d f g = go (leb a b) refl
  where
    up : c ≤ d → a ≤ b
    up = g

    go : (t : Bool) → leb a b ≡ t → t ≡ leb c d
    go true e = sym (le-leb c d (f (leb-true a b e)))
    go false e = sym (lt-leb c d (not-le c d (λ l. away (up l) (leb-false a b e))))
      where
        not-le : (c d : ℕ) → (c ≤ d → ⊥) → d < c
        not-le c d h = omega arith

        away : a ≤ b → b < a → ⊥
        away l h = omega arith

low : (d w : ℕ) → w < 2 ^ d → some (λ (b : Bool). b) (bits d w) ≡ leb 1 w
unfolding some bits
low zero w h = ap (leb 1) (sym (lt-one h))
low (suc d) w h = ap (λ (t : Bool). odd w || t) (low d (w / 2) (half_lt d h)) ∙ go (odd w) refl
  where
    go : (b : Bool) → odd w ≡ b → (b || leb 1 (w / 2)) ≡ leb 1 w
    go true e = sym (le-leb 1 w (omega (arith, bit-odd w, ap bit e)))
    go false e = same-leb 1 (w / 2) 1 w (λ l. omega arith) (λ l. omega (arith, bit-odd w, ap bit e))

from : (n d w : ℕ) → n ≤ d → w < 2 ^ d → some (λ (b : Bool). b) (drop n (bits d w)) ≡ leb (2 ^ n) w
unfolding bits
from zero d w l h = low d w h
from (suc n) zero w l h = absurd (not-suc-le-zero l)
from (suc n) (suc d) w l h =
    from n d (w / 2) (le_of_suc-le-suc l) (half_lt d h)
    ∙ same-leb (2 ^ n) (w / 2) (2 ^ suc n) w (λ i. omega (arith, pow-suc 2 n)) (λ i. omega (arith, pow-suc 2 n))

pub set-none : (n w : ℕ) → n ≤ 64 → w < 2 ^ 64 → set_from n w ≡ false → w < 2 ^ n
set-none n w l h e = leb-false (2 ^ n) w (sym (from n 64 w l h) ∙ e)

-- where the line 4 does not fit, every word of the terms is below 2 ^ n, and nothing is wrong beside them
pub record Low (n : ℕ) (xs zs : List ℕ) (beside : Bool) : Type 0 where
  pub x-low : (k : ℕ) → k < length xs → get_or xs k 0 < 2 ^ n
  pub z-low : (k : ℕ) → k < length zs → get_or zs k 0 < 2 ^ n
  pub none_beside : beside ≡ false

pub low-list : (n : ℕ) (ws : List ℕ) → n ≤ 64 → some (set_from n) ws ≡ false → Fit ws → (k : ℕ) → k < length ws → get_or ws k 0 < 2 ^ n
low-list n ws l e f k h = set-none n (get_or ws k 0) l (f k).fits (some-none (set_from n) 0 ws e k h)

pub low_of : (n : ℕ) (xs zs : List ℕ) (beside : Bool) → n ≤ 64 → high_bits n xs zs beside ≡ false → Fit xs → Fit zs → Low n xs zs beside
low_of n xs zs beside l e fx fz =
    let a = some (set_from n) xs in
    let b = some (set_from n) zs in
    let r = none_of (a || b) beside e in
    let t = none_of a b r.0 in
    record { x-low = low-list n xs l t.0 fx; z-low = low-list n zs l t.1 fz; none_beside = r.1 }

-- past the last bit there is none
past-bits : (n d w : ℕ) → d ≤ n → drop n (bits d w) ≡ []
past-bits n d w h =
    let l : length (bits d w) ≤ n = rw (length-bits d w) h in
    drop_of_length-le (bits d w) l

pub set_past : (n w : ℕ) → 64 ≤ n → false ≡ set_from n w
unfolding some
set_past n w h = sym (ap (some (λ (b : Bool). b)) (past-bits n 64 w h))

-- ---- a bit set in one of two words

four : (p q r s : Bool) → ((p || q) || (r || s)) ≡ ((p || r) || (q || s))
four true q r s = refl
four false true true s = refl
four false true false s = refl
four false false r s = refl

or-bits : (n d a b : ℕ) → some (λ (t : Bool). t) (drop n (bits d (bit_or a b))) ≡ (some (λ (t : Bool). t) (drop n (bits d a)) || some (λ (t : Bool). t) (drop n (bits d b)))
unfolding some bits
or-bits zero zero a b = refl
or-bits zero (suc d) a b =
    rw (or-odd a b, or-half a b, or-bits zero d (a / 2) (b / 2))
    (four (odd a) (odd b) (some (λ (t : Bool). t) (bits d (a / 2))) (some (λ (t : Bool). t) (bits d (b / 2))))
or-bits (suc n) zero a b = refl
or-bits (suc n) (suc d) a b = rw (or-half a b) (or-bits n d (a / 2) (b / 2))

pub set-or : (n a b : ℕ) → set_from n (bit_or a b) ≡ (set_from n a || set_from n b)
set-or n a b = or-bits n 64 a b

no_bits : (n d : ℕ) → some (λ (t : Bool). t) (drop n (bits d 0)) ≡ false
unfolding some bits
no_bits zero zero = refl
no_bits zero (suc d) = no_bits zero d
no_bits (suc n) zero = refl
no_bits (suc n) (suc d) = no_bits n d

pub none-set : (n : ℕ) → set_from n 0 ≡ false
none-set n = no_bits n 64

-- ---- by the largest word of n bits

module _ (n top : ℕ) (l : n ≤ 64) (e : suc top ≡ 2 ^ n) where
  pub set-above : (w : ℕ) → w < 2 ^ 64 → set_from n w ≡ ltb top w
  set-above w h = from n 64 w l h ∙ ap (λ (b : ℕ). leb b w) (sym e)

-- the line 4, by what one pass over the terms found
pub bits_seen : (n : ℕ) {xs zs : List ℕ} (beside : Bool) {all : ℕ} {fell high : Bool} → Looked xs zs all fell → high ≡ set_from n all → high_bits n xs zs beside ≡ (high || beside)
bits_seen n beside s e = ap (λ (b : Bool). b || beside) (sym (e ∙ s.is-above n))

-- ---- the difference of two words by halves: its highest bit tells which is below

-- one exactly where b alone has the last bit
last_bit : (a b : ℕ) → a < 2 ^ 64 → bit_and (bit_and b ((2 ^ 64 - 1) - a)) 1 ≡ bit (odd b && not (odd a))
last_bit a b h =
    and_mask (bit_and b ((2 ^ 64 - 1) - a)) 1 ∙ bit-odd (bit_and b ((2 ^ 64 - 1) - a)) ∙ ap bit (and-odd b ((2 ^ 64 - 1) - a) ∙ ap (λ (t : Bool). odd b && t) (not-odd 63 a h))

record Last (a b c : ℕ) : Type 0 where
  le-b : c ≤ b % 2
  le-a : c + a % 2 ≤ 1
  ge : b % 2 ≤ c + a % 2

last_of : (s t : Bool) (a b c : ℕ) → a % 2 ≡ bit s → b % 2 ≡ bit t → c ≡ bit (t && not s) → Last a b c
last_of true true a b c p q r = record { le-b = omega arith; le-a = omega arith; ge = omega arith }
last_of true false a b c p q r = record { le-b = omega arith; le-a = omega arith; ge = omega arith }
last_of false true a b c p q r = record { le-b = omega arith; le-a = omega arith; ge = omega arith }
last_of false false a b c p q r = record { le-b = omega arith; le-a = omega arith; ge = omega arith }

-- a sum of two words that is taken mod 2^64
wrapped : (x y : ℕ) → 2 ^ 64 ≤ x → x < 2 ^ 65 → x % 2 ^ 64 ≡ y → x ≡ y + 2 ^ 64
wrapped x y h l e = omega arith

within : (x y : ℕ) → x < 2 ^ 64 → x % 2 ^ 64 ≡ y → x ≡ y
within x y h e = omega arith

-- the half of a is the smaller one
smaller : (a b d : ℕ) → d + b / 2 ≡ a / 2 + 2 ^ 64 → d < 2 ^ 64 → a < b
smaller a b d u h = omega arith

borrowed : (a b c d r : ℕ) → d + b / 2 ≡ a / 2 + 2 ^ 64 → r + c ≡ d → b < 2 ^ 64 → c ≤ 1 → 2 ^ 63 ≤ r
borrowed a b c d r u v h k = omega arith

-- there is nothing to borrow
not-high : (a b c d r : ℕ) → d + b / 2 ≡ a / 2 → r + c ≡ d → a < 2 ^ 64 → r < 2 ^ 63
not-high a b c d r u v h = omega arith

not-below : (a b c d r : ℕ) → d + b / 2 ≡ a / 2 → r + c ≡ d → b % 2 ≤ c + a % 2 → b ≤ a
not-below a b c d r u v h = omega arith

away : {m n : ℕ} → m ≤ n → n < m → ⊥
away h l = omega arith

-- the halves are alike, and b alone has the lowest bit
one_less : (c d r : ℕ) → r + c ≡ d + 2 ^ 64 → r < 2 ^ 64 → c ≤ 1 → (c ≡ 1) × (d ≡ 0) × (r + 1 ≡ 2 ^ 64)
one_less c d r v h k = (omega arith, omega arith, omega arith)

by_last : (a b c d r : ℕ) → d + b / 2 ≡ a / 2 → r + c ≡ d + 2 ^ 64 → r < 2 ^ 64 → c ≤ b % 2 → c + a % 2 ≤ 1 → (a < b) × (2 ^ 63 ≤ r)
by_last a b c d r u v h k m =
    let t = one_less c d r v h (omega (arith, k)) in
    (halves a b (rw t.1 at u) (rw t.0 at k) (rw t.0 at m), omega (arith, t.2))
  where
    halves : (a b : ℕ) → 0 + b / 2 ≡ a / 2 → 1 ≤ b % 2 → 1 + a % 2 ≤ 1 → a < b
    halves a b u k m = omega arith

module _ (a b c d r : ℕ) (fa : a < 2 ^ 64) (fb : b < 2 ^ 64) (fd : d < 2 ^ 64) (fr : r < 2 ^ 64) (l : Last a b c) (p : (d + b / 2) % 2 ^ 64 ≡ a / 2) (q : (r + c) % 2 ^ 64 ≡ d) where
  both : Dec (2 ^ 64 ≤ d + b / 2) → Dec (2 ^ 64 ≤ r + c) → (2 ^ 63 ≤ r → a < b) × (a < b → 2 ^ 63 ≤ r)
  both (yes i) (yes j) =
      let u = wrapped (d + b / 2) (a / 2) i (omega arith) p in
      let v = wrapped (r + c) d j (omega (arith, l.le-b)) q in
      (λ h. omega (arith, u, v, l.le-b, l.le-a, l.ge), λ h. omega (arith, u, v, l.le-b, l.le-a, l.ge))
  both (yes i) (no j) =
      let u = wrapped (d + b / 2) (a / 2) i (omega arith) p in
      let v = within (r + c) d (lt_of_not-le j) q in
      (λ h. smaller a b d u fd, λ h. borrowed a b c d r u v fb (omega (arith, l.le-b)))
  both (no i) (yes j) =
      let u = within (d + b / 2) (a / 2) (lt_of_not-le i) p in
      let v = wrapped (r + c) d j (omega (arith, l.le-b)) q in
      let t = by_last a b c d r u v fr l.le-b l.le-a in
      (λ h. t.0, λ h. t.1)
  both (no i) (no j) =
      let u = within (d + b / 2) (a / 2) (lt_of_not-le i) p in
      let v = within (r + c) d (lt_of_not-le j) q in
      (λ h. absurd (away h (not-high a b c d r u v fa)), λ h. absurd (away (not-below a b c d r u v l.ge) h))

  below_by : leb (2 ^ 63) r ≡ ltb a b
  below_by =
      let t = both (dec_le (2 ^ 64) (d + b / 2)) (dec_le (2 ^ 64) (r + c)) in
      same-leb (2 ^ 63) r (suc a) b t.0 t.1

pub borrow-set : (a b d r : ℕ) → a < 2 ^ 64 → b < 2 ^ 64 → d < 2 ^ 64 → r < 2 ^ 64 → (d + b / 2) % 2 ^ 64 ≡ a / 2
    → (r + bit_and (bit_and b ((2 ^ 64 - 1) - a)) 1) % 2 ^ 64 ≡ d → set_from 63 r ≡ ltb a b
borrow-set a b d r fa fb fd fr p q =
    let c = bit_and (bit_and b ((2 ^ 64 - 1) - a)) 1 in
    from 63 64 r (omega arith) fr ∙ below_by a b c d r fa fb fd fr (last_of (odd a) (odd b) a b c (bit-odd a) (bit-odd b) (last_bit a b fa)) p q
