-- The standard names, from one place.
pub use Rattle.text.proofs.Kit.{◌≡◌, refl, sym, ap, ◌∙◌, subst, Bool, true, false, cond, not, ◌&&◌, List, [], ◌∷◌, ◌++◌, append_assoc, append-nil, ℕ, ◌+◌, ◌*◌, ◌-◌, ◌<◌, ◌≤◌, arith, rules, length, take, drop, get_or, not-true, not-false, eq-eqb, ne_eqb}
pub use Rattle.text.proofs.Adding.{whole}
pub use Rattle.text.specs.Readers.{Laid, Short, Added}
use Rattle.std.specs.Prelude.{Option}
use Rattle.text.proofs.Adding.{both}

-- two pieces, the second behind the first
pub then_some : (v u : List ℕ) {o p : List ℕ} (q : List ℕ) {at n : ℕ} (r : Option ℕ) → Laid v o at p n → Added u p n q r → Added (v ++ u) o at q r
then_some v u q r s h = both v u s q r h
