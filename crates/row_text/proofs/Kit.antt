-- The standard names, from one place.
pub use mathlib.Core.Path.{◌≡◌, refl, sym, ap, ap₂, ◌∙◌, subst}
pub use mathlib.Core.Bool.{Bool, true, false, cond, not, ◌||◌, ◌&&◌, false≢true}
pub use mathlib.Core.List.{List, [], ◌∷◌, ◌++◌, append_assoc, append-nil}
pub use Prim.Native.Nat.{ℕ, zero, suc, ◌+◌, ◌*◌, ◌-◌, ◌/◌, ◌%◌, ◌^◌, ◌<◌, ◌≤◌}
pub use native.Mathlib.Omega.{arith}
pub use native.Mathlib.Numerals.{add-one}
pub use native.Mathlib.Nat.{zero-add, add-zero}
pub use native.Mathlib.Decide.{dec_lt, ℕ_discrete}
pub use borrow.Author.Rules.{rules}
pub use borrow.Author.Tests.{ltb-true, ltb-false, leb-true, leb-false, eqb-true, eqb-false, lt-ltb, le-ltb, le-leb, lt-leb, eq-eqb, ne_eqb, not-true, not-false}
pub use lib.Dec.{eqb, ltb, leb}
pub use lib.ListN.{length, get_or, take, drop, set, length-append, length-set, length-drop, length-take, drop_of_length-le, get_or-eq_default as List·get_or-eq-default}
pub use lib.Seq.{drop-cons, drop-drop, ext_get_or, get_or-take, get_or-set_same, get_or-set_other}
pub use Rattle.pauli.specs.Pauli.{Pauli, has_x, has_z}
pub use Rattle.pauli.proofs.Bools.{and_left, and_right}
pub use Rattle.pauli.specs.declared.PauliMatrix.TheVariants.{I, X, Y, Z}

-- cases on a test
pub by : {A : Type 0} (P : A → Type 0) (b : Bool) {x y : A} → (b ≡ true → P x) → (b ≡ false → P y) → P (cond b x y)
by P true f g = f refl
by P false f g = g refl
