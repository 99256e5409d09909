-- The standard names, from one place.
pub use Rattle.text.proofs.Kit.{◌≡◌, refl, sym, ap, ◌∙◌, subst, Bool, true, false, cond, not, ◌&&◌, List, [], ◌∷◌, ◌++◌, ℕ, zero, suc, ◌+◌, ◌*◌, ◌-◌, ◌<◌, ◌≤◌, arith, rules, length, take, drop, get_or, eqb, eqb-true, eqb-false, eq-eqb, ne_eqb, not-true, not-false, by, add-one, drop-cons, drop_of_length-le}
pub use Rattle.text.specs.Readers.{Got, none, got, answer, Reads}
