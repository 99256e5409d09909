-- One pass over the coefficients for what is not sound. Assumes nothing.
-- Invariant of the pass: found so far, or found from i on; a step takes the heads off what is to come.
use Rattle.std.proofs.Common.{◌≡◌, ℕ, ◌+◌, ◌<◌, ◌≤◌, Bool, false, not, ◌||◌, List, length, get_or, drop, sym, refl, ◌∙◌, zero-le, add-one, arith, drop_of_length-le, drop-cons}
use mathlib.Core.Bool.{or-false}
use Rattle.encoding.specs.Refusals.{some}
use Rattle.mat_elem.specs.Numbers.{Arithmetic, wild}
use Rattle.mat_elem.proofs.Pass.{found}

module _ {P A : Type 0} (o : Arithmetic P A) where
  -- what was found so far, or is found from i on, is what there is to find
  pub record Wilds (re im : List P) (bad : Bool) (i : ℕ) : Type 0 where
    pub le : i ≤ length re
    pub same : (bad || wild o (drop i re) (drop i im)) ≡ wild o re im

module _ {P A : Type 0} (o : Arithmetic P A) (re im : List P) (long : length im ≡ length re) where
  pub wild-none : Wilds o re im false 0
  wild-none = record { le = zero-le; same = refl }

  pub wild-more : {bad : Bool} {i : ℕ} → Wilds o re im bad i → i < length re → {p q : Bool}
      → p ≡ o.sound (o.widened (get_or re i o.past)) → q ≡ o.sound (o.widened (get_or im i o.past)) → Wilds o re im (bad || not p || not q) (i + 1)
  unfolding some
  wild-more {bad} {i} w h e f =
      let k : i < length im = omega arith in
      record { le = omega arith; same = rw (add-one, e, f) (found bad (not (o.sound (o.widened (get_or re i o.past)))) (not (o.sound (o.widened (get_or im i o.past)))) _ _ ∙ (rw (drop-cons re i o.past, drop-cons im i o.past) at w.same)) }

  pub wild-all : {bad : Bool} {i : ℕ} → Wilds o re im bad i → length re ≤ i → bad ≡ wild o re im
  unfolding some
  wild-all {bad} {i} w h =
      let k : length im ≤ i = omega arith in
      sym (or-false bad) ∙ (rw (drop_of_length-le re h, drop_of_length-le im k) at w.same)
