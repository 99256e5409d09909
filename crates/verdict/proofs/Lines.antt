-- The line: pieces written one behind the other from the start of a buffer that has room for all of them are the line, and its length is the place behind
-- the last. A number has at most 21 digits. Assumes nothing.
use Rattle.std.specs.Prelude.{Option, None, Some, IsSome}
use mathlib.Core.Path.{◌≡◌, refl, sym, ap, ◌∙◌, subst}
use mathlib.Core.Bool.{Bool, true, false, cond}
use mathlib.Core.List.{List, ◌++◌, append_assoc}
use Prim.Native.Nat.{ℕ, zero, suc, ◌+◌, ◌/◌, ◌<◌, ◌≤◌}
use native.Mathlib.Omega.{arith}
use borrow.Author.Tests.{lt-ltb, le-ltb}
use lib.Dec.{ltb}
use lib.ListN.{length, take, drop}
use Rattle.text.specs.Readers.{Laid, Wrote}
use Rattle.text.specs.Numbers.{size, numeral}
use Rattle.text.proofs.Numbers.{length_digits}
use Rattle.text.proofs.Adding.{length_over, both}
use Rattle.pwl.proofs.Kit.{take_at}
use Rattle.verdict.specs.Verdict.{verdict_of, letters, text_of, most, line_of}
use Rattle.verdict.specs.Workers.{Says}

-- what was written from the start on
pub said : {w o p : List ℕ} {n : ℕ} → Laid w o 0 p n → Says w p n
said {w} {o} {p} {n} r =
    let e : n ≡ length w = omega (arith, r.place) in
    record {
      text = ap (take n) r.bytes ∙ take_at w (drop (0 + length w) o) n (sym e);
      within = omega (arith, e, r.room, ap length r.bytes, length_over w 0 o r.room);
    }

-- what has room is written
pub fits : (w o : List ℕ) (at : ℕ) (p : List ℕ) (r : Option ℕ) → at + length w ≤ length o → Wrote w o at p r → IsSome r
fits w o at p None h f = absurd (omega (arith, f.0))
fits w o at p (Some n) h f = refl

pub long-as : {w o p : List ℕ} {at n : ℕ} → Laid w o at p n → length p ≡ length o
long-as {w} {o} {p} {at} r = ap length r.bytes ∙ length_over w at o r.room

-- ---- a text, a number and a text

size-most : (f v : ℕ) → size 10 f v ≤ suc f
size-most zero v = omega arith
size-most (suc f) v = go (ltb v 10) (size-most f (v / 10))
  where
    go : (b : Bool) {k : ℕ} → k ≤ suc f → cond b 1 (suc k) ≤ suc (suc f)
    go true h = omega arith
    go false h = omega (arith, h)

pub digits-most : (v : ℕ) → length (numeral 10 v) ≤ 21
unfolding numeral
digits-most v = omega (arith, length_digits 10 (size 10 20 v) v, size-most 20 v)

pub in-turn : (u v t : List ℕ) {o p q r : List ℕ} {i j n : ℕ} → Laid u o 0 p i → Laid v p i q j → Laid t q j r n → Says (u ++ (v ++ t)) r n
in-turn u v t {o} {p} {q} {r} {i} {j} {n} x y z =
    let xy = both u v x q (Some j) y in
    said (subst (λ (w : List ℕ). Laid w o 0 r n) (append_assoc u v t) (both (u ++ v) t xy r (Some n) z))

-- ---- the line on an input

pub line-large : (s : List ℕ) → most < length s → letters "too large\n" ≡ line_of s
unfolding line_of
line-large s h = sym (ap (λ (b : Bool). cond b (letters "too large\n") (text_of (verdict_of s))) (lt-ltb most (length s) h))

pub line_small : (s : List ℕ) → length s ≤ most → text_of (verdict_of s) ≡ line_of s
unfolding line_of
line_small s h = sym (ap (λ (b : Bool). cond b (letters "too large\n") (text_of (verdict_of s))) (le-ltb most (length s) h))
