-- The standard names, from one place.
pub use mathlib.Core.Path.{◌≡◌, refl, sym, ap, ◌∙◌, subst}
pub use mathlib.Core.Bool.{Bool, true, false, cond, not, ◌&&◌, false≢true}
pub use Rattle.std.specs.Prelude.{Option, None, Some}
pub use mathlib.Core.List.{List, [], ◌∷◌, ◌++◌, append_assoc, append-nil}
pub use Prim.Native.Nat.{ℕ, zero, suc, ◌+◌, ◌*◌, ◌-◌, ◌/◌, ◌%◌, ◌^◌, ◌<◌, ◌≤◌}
pub use native.Mathlib.Omega.{arith}
pub use native.Mathlib.Numerals.{add-one}
pub use borrow.Author.Rules.{rules}
pub use borrow.Author.Tests.{ltb-true, ltb-false, leb-true, leb-false, eqb-true, eqb-false, lt-ltb, le-ltb, le-leb, lt-leb, eq-eqb, ne_eqb, not-true, not-false}
pub use lib.Dec.{T, eqb, ltb, leb}
pub use lib.ListN.{length, get_or, take, drop, set, length-append, length-set, length-drop, drop_of_length-le, take-append-drop}
pub use lib.Seq.{drop-cons, drop-drop}

-- cases on a test
pub by : {A : Type 0} (P : A → Type 0) (b : Bool) {x y : A} → (b ≡ true → P x) → (b ≡ false → P y) → P (cond b x y)
by P true f g = f refl
by P false f g = g refl

pub and_left : (a c : Bool) → (a && c) ≡ true → a ≡ true
and_left true c e = refl
and_left false c e = e

pub and_right : (a c : Bool) → (a && c) ≡ true → c ≡ true
and_right true c e = e
and_right false c e = absurd (false≢true e)
