-- The standard names, from one place.
pub use mathlib.Core.Path.{◌≡◌, refl, sym, ap, ap₂, ◌∙◌, subst}
pub use mathlib.Core.Bool.{Bool, true, false, cond, not, ◌||◌, true≢false, false≢true}
pub use mathlib.Core.List.{List, [], ◌∷◌, ◌++◌, append_assoc, append-nil}
pub use Prim.Native.Nat.{ℕ, zero, suc, ◌+◌, ◌*◌, ◌-◌, ◌/◌, ◌%◌, ◌^◌, ◌<◌, ◌≤◌}
pub use native.Mathlib.Omega.{arith}
pub use native.Mathlib.Numerals.{add-one}
pub use borrow.Author.Rules.{rules}
pub use borrow.Author.Tests.{ltb-true, ltb-false, eqb-true, lt-ltb, le-ltb, eq-eqb, ne_eqb, not-true, not-false}
pub use lib.Dec.{eqb, ltb}
pub use Rattle.std.specs.Prelude.{Result, Ok, Err, IfOk}
pub use Rattle.encoding.specs.declared.Refusal.{Refusal}
pub use lib.ListN.{length, get_or, take, drop, set, length-append, length-set, length-drop, drop_of_length-le}
pub use lib.Seq.{drop-cons, drop-drop, drop_at, take_at}
