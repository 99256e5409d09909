-- Pieces of a run done late, in memory: nothing done, one piece after another, a loop over a list. What memory has come to stands for the rule's run on what it
-- stood for before (`Runs`), so that pieces go together as the rule's do; a full run stays as it is. Assumes nothing.
use Prim.Native.Nat.{ℕ, ◌+◌, ◌≤◌, ◌<◌}
use native.Mathlib.Numerals.{add-one}
use native.Mathlib.Omega.{arith}
use mathlib.Core.Path.{◌≡◌, refl, sym, ap, ◌∙◌, subst}
use mathlib.Core.Bool.{true, false}
use mathlib.Core.List.{List, []}
use lib.ListN.{length, get_or, drop}
use lib.Seq.{drop-cons, drop-length}
use Rattle.pauli.specs.Row.{Row, mul_row}
use Rattle.reduction.specs.Rule.{Run}
use Rattle.reduction.specs.Capacity.{Reduced, done, full}
use Rattle.reduction.specs.Workers.{and_then, through}
use Rattle.tabled.specs.Workers.{Lazy, going, stopped, row_of, settle, Meets, goes, stops}
use Rattle.tabled.proofs.Meets.{meets-going, meets-stopped, meets-mono}
use Rattle.late.specs.Workers.{Store, late_of, held_by, held_of, Shape, Carries, Runs}
use Rattle.late.proofs.View.{keeps-none, keeps_then}

-- ---- memory

pub carries-none : {n : ℕ} {S : Store} → Shape n S → Carries n S S
carries-none h =
    record {
      shape = h;
      grows = omega arith;
      rows-keep = keeps-none h.owing.rows;
      table-keep = keeps-none h.owing.table;
      owed-len = refl;
      log-len = refl;
      past = λ _ _. refl;
    }

pub carries-then : {n : ℕ} {S S₁ S₂ : Store} → Carries n S S₁ → Carries n S₁ S₂ → Carries n S S₂
carries-then a b =
    record {
      shape = b.shape;
      grows = omega (arith, a.grows, b.grows);
      rows-keep = keeps_then a.rows-keep b.rows-keep;
      table-keep = keeps_then a.table-keep b.table-keep;
      owed-len = b.owed-len ∙ a.owed-len;
      log-len = b.log-len ∙ a.log-len;
      past = λ j hj. b.past j hj ∙ a.past j (omega (arith, b.grows));
    }

-- ---- pieces

module _ (n : ℕ) (S : Store) where
  pub held-going : S.at.full ≡ false → held_of n S ≡ going (late_of n S)
  unfolding held_by
  held-going e = ap (λ b. held_by b (late_of n S)) e

  pub held-stopped : S.at.full ≡ true → held_of n S ≡ stopped (late_of n S)
  unfolding held_by
  held-stopped e = ap (λ b. held_by b (late_of n S)) e

module _ {n : ℕ} {I : Lazy Row → Type 0} {f : Run Row → Reduced Row} {S₀ S : Store} (R : Runs n I f S₀ S) where
  pub runs-going : S.at.full ≡ false → (f (settle (mul_row n) (late_of n S₀)) ≡ done (settle (mul_row n) (late_of n S))) × I (late_of n S)
  runs-going e = meets-going (mul_row n) (late_of n S) R.meets (held-going n S e)

  pub runs-stopped : S.at.full ≡ true → f (settle (mul_row n) (late_of n S₀)) ≡ full (late_of n S).log (row_of (mul_row n) (late_of n S))
  runs-stopped e = meets-stopped (mul_row n) (late_of n S) R.meets (held-stopped n S e)

  -- the same for an equal piece, and for a weaker I
  pub runs_as : {g : Run Row → Reduced Row} → f (settle (mul_row n) (late_of n S₀)) ≡ g (settle (mul_row n) (late_of n S₀)) → Runs n I g S₀ S
  runs_as e = record { meets = subst (λ r. Meets (mul_row n) I (held_of n S) r) e R.meets; carries = R.carries }

  pub runs-mono : {J : Lazy Row → Type 0} → ((L : Lazy Row) → I L → J L) → Runs n J f S₀ S
  runs-mono h = record { meets = meets-mono (mul_row n) h R.meets; carries = R.carries }

  -- a piece that is full
  pub runs-full : {J : Lazy Row → Type 0} (g : Run Row → Reduced Row) → S.at.full ≡ true → Runs n J (λ r. and_then (f r) g) S₀ S
  unfolding and_then
  runs-full g e = record { meets = stops (late_of n S) (held-stopped n S e) (ap (λ r. and_then r g) (runs-stopped e)); carries = R.carries }

-- nothing is done
pub runs_none : {n : ℕ} {I : Lazy Row → Type 0} {S : Store} → Shape n S → S.at.full ≡ false → I (late_of n S) → Runs n I done S S
runs_none {n} {I} {S} h e i = record { meets = goes (late_of n S) (held-going n S e) refl i; carries = carries-none h }

-- one piece after another
pub runs_then : {n : ℕ} {I J : Lazy Row → Type 0} {f g : Run Row → Reduced Row} {S₀ S₁ S : Store} → Runs n I f S₀ S₁ → S₁.at.full ≡ false → Runs n J g S₁ S
    → Runs n J (λ r. and_then (f r) g) S₀ S
unfolding and_then
runs_then {n} {I} {J} {f} {g} {S₀} {S₁} {S} K e L =
    record {
      meets = subst (λ q. Meets (mul_row n) J (held_of n S) (and_then q g)) (sym (runs-going K e).0) L.meets;
      carries = carries-then K.carries L.carries;
    }

-- ---- a loop over a list

-- what is left of the list, done from here, gives what the whole list gives from the start
pub record Going (n : ℕ) (I : Lazy Row → Type 0) (f : ℕ → Run Row → Reduced Row) (list : List ℕ) (S₀ S : Store) (i : ℕ) : Type 0 where
  pub place : i ≤ length list
  pub on : S.at.full ≡ false
  pub inv : I (late_of n S)
  pub carries : Carries n S₀ S
  pub left : through f (drop i list) (settle (mul_row n) (late_of n S)) ≡ through f list (settle (mul_row n) (late_of n S₀))

pub going_start : {n : ℕ} {I : Lazy Row → Type 0} (f : ℕ → Run Row → Reduced Row) (list : List ℕ) {S : Store} → Shape n S → S.at.full ≡ false → I (late_of n S) → Going n I f list S S 0
going_start f list h e i = record { place = omega arith; on = e; inv = i; carries = carries-none h; left = refl }

module _ {n : ℕ} {I : Lazy Row → Type 0} {f : ℕ → Run Row → Reduced Row} {list : List ℕ} {S₀ S : Store} {i : ℕ} (g : Going n I f list S₀ S i) where
  at : i < length list → through f (drop i list) (settle (mul_row n) (late_of n S)) ≡ and_then (f (get_or list i 0) (settle (mul_row n) (late_of n S))) (λ r. through f (drop (i + 1) list) r)
  unfolding through
  at h = rw (add-one, drop-cons list i 0 h)

  module _ {S' : Store} (h : i < length list) (R : Runs n I (f (get_or list i 0)) S S') where
    pub going_next : S'.at.full ≡ false → Going n I f list S₀ S' (i + 1)
    unfolding and_then
    going_next e =
        let m = runs-going R e in
        record {
          place = omega arith;
          on = e;
          inv = m.1;
          carries = carries-then g.carries R.carries;
          left = sym (at h ∙ ap (λ r. and_then r (λ r'. through f (drop (i + 1) list) r')) m.0) ∙ g.left;
        }

    pub going-full : S'.at.full ≡ true → Runs n I (through f list) S₀ S'
    unfolding and_then
    going-full e =
        record {
          meets = stops (late_of n S') (held-stopped n S' e) (sym g.left ∙ at h ∙ ap (λ r. and_then r (λ r'. through f (drop (i + 1) list) r')) (runs-stopped R e));
          carries = carries-then g.carries R.carries;
        }

  pub going_end : length list ≤ i → Runs n I (through f list) S₀ S
  unfolding through
  going_end h =
      let e : drop i list ≡ [] = let q : i ≡ length list = omega (arith, g.place) in ap (λ m. drop m list) q ∙ drop-length list in
      record {
        meets = goes (late_of n S) (held-going n S g.on) (sym g.left ∙ ap (λ m. through f m (settle (mul_row n) (late_of n S))) e) g.inv;
        carries = g.carries;
      }
