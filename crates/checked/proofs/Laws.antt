-- Differences of naturals, the range of i64 by its test, and what the checked operations of std answer, as an equation. Assumes nothing.
use mathlib.Core.Path.{◌≡◌, refl}
use mathlib.Core.Bool.{Bool, true, false, cond}
use Prim.Native.Nat.{ℕ, suc, ◌+◌, ◌-◌, ◌^◌}
use native.Mathlib.Omega.{arith}
use borrow.Author.Tests.{ltb-true, ltb-false, lt-ltb}
use lib.Dec.{ltb}
use lib.IntN.{ℤ, pos, negsuc, sub_ℕ}
use lib.Signed.{mag}
use mir.Syntax.{w64}
use mir.Val.{SFits, to_z, of_z}
use mir.Facts.{to_z-of_z}
use Rattle.std.specs.Prelude.{SomeIff, Option, Some, None}
use Rattle.checked.specs.Range.{within}
use Rattle.checked.specs.Workers.{given, checked}

-- a difference of two naturals is one of the two
pub sub-ind : (P : ℤ → Type 0) (x y : ℕ) → ((k : ℕ) → x + suc k ≡ y → P (negsuc k)) → ((k : ℕ) → x ≡ y + k → P (pos k)) → P (sub_ℕ x y)
sub-ind P x y f g = go (ltb x y) refl
  where
    go : (b : Bool) → ltb x y ≡ b → P (cond b (negsuc (y - suc x)) (pos (x - y)))
    go true e = f (y - suc x) (omega (arith, ltb-true x y e))
    go false e = g (x - y) (omega (arith, ltb-false x y e))

-- an i64 is in the range
pub good : (z : ℤ) → within z ≡ true → SFits w64 z
good z e = record { sfits = ltb-true (mag z) (2 ^ 63) e }

-- std says when there is an answer, and which; that is `checked`
pub as_checked : (r : Option ℤ) (z : ℤ) → SomeIff r (SFits w64 z) z → r ≡ checked z
as_checked None z h = go (within z) refl
  where
    go : (b : Bool) → within z ≡ b → None ≡ checked z
    go true e = absurd (h (good z e))
    go false e = rw e
as_checked (Some x) z h = rw (h.1, lt-ltb (mag z) (2 ^ 63) h.0.sfits)

-- what an answer tells: a value holds and is the number; and none does not hold
pub told-some : {A : Type 0} (f : Bool) (z x : A) → given f z ≡ Some x → (f ≡ true) × (x ≡ z)
told-some true z x h = (refl, cc)
told-some false z x h = absurd (cc)

pub told-none : {A : Type 0} (f : Bool) (z : A) → given f z ≡ None → f ≡ false
told-none true z h = absurd (cc)
told-none false z h = refl

-- stored and read back
pub read-back : (z x : ℤ) → checked z ≡ Some x → (within z ≡ true) × (to_z w64 (of_z w64 x) ≡ z)
read-back z x h =
    let t = told-some (within z) z x h in
    (t.0, rw t.1 (to_z-of_z (good z t.0)))
