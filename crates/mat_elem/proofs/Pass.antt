-- One pass over the terms: what it has found so far, with what is still to come, is what there is to find. Assumes nothing.
-- Invariant: found so far, or found from i on; a step takes the head off what is to come.
use Rattle.std.proofs.Common.{◌≡◌, ℕ, suc, ◌+◌, ◌<◌, ◌≤◌, Bool, true, false, ◌||◌, ltb, List, length, get_or, drop, sym, refl, ap, ◌∙◌, zero-le, add-one, arith, drop_of_length-le, drop-cons}
use mathlib.Core.Bool.{or-false, or_assoc}
use lib.Bits.{bit_or}
use Rattle.encoding.specs.Refusals.{some}
use Rattle.mat_elem.specs.Terms.{set_from, falls_after, falls}
use Rattle.mat_elem.specs.Workers.{Looked}
use Rattle.mat_elem.proofs.Bits.{none-set, set-or}

-- two found now, and two still to come
pub found : (a p q r s : Bool) → (a || p || q || (r || s)) ≡ (a || (p || r || (q || s)))
found true p q r s = refl
found false true q r s = refl
found false false true true s = refl
found false false true false s = refl
found false false false r s = refl

pub record Looking (xs zs : List ℕ) (all fell prev i : ℕ) : Type 0 where
  pub le : i ≤ length xs
  pub is-high : (n : ℕ) → (set_from n all || (some (set_from n) (drop i xs) || some (set_from n) (drop i zs))) ≡ (some (set_from n) xs || some (set_from n) zs)
  pub is-fell : (set_from 63 fell || falls_after prev (drop i xs)) ≡ falls xs

module _ (xs zs : List ℕ) (long : length zs ≡ length xs) where
  pub look_none : Looking xs zs 0 0 0 0
  look_none = record { le = zero-le; is-high = λ n. ap (λ (b : Bool). b || (some (set_from n) xs || some (set_from n) zs)) (none-set n); is-fell = ap (λ (b : Bool). b || falls xs) (none-set 63) }

  pub look-more : {all fell prev i : ℕ} → Looking xs zs all fell prev i → i < length xs → (r : ℕ) → set_from 63 r ≡ ltb (get_or xs i 0) prev
      → Looking xs zs (bit_or (bit_or all (get_or xs i 0)) (get_or zs i 0)) (bit_or fell r) (get_or xs i 0) (i + 1)
  unfolding some falls_after
  look-more {all} {fell} {prev} {i} l h r e =
      let k : i < length zs = omega arith in
      let x = get_or xs i 0 in
      let z = get_or zs i 0 in
      record {
        le = omega arith;
        is-high = λ n.
            rw (add-one, set-or n (bit_or all x) z, set-or n all x)
            (found (set_from n all) (set_from n x) (set_from n z) (some (set_from n) (drop (suc i) xs)) (some (set_from n) (drop (suc i) zs)) ∙ (rw (drop-cons xs i 0, drop-cons zs i 0) at (l.is-high n)));
        is-fell = rw (add-one, set-or 63 fell r, e) (or_assoc (set_from 63 fell) (ltb x prev) (falls_after x (drop (suc i) xs)) ∙ (rw (drop-cons xs i 0) at l.is-fell));
      }

  pub look-all : {all fell prev i : ℕ} → Looking xs zs all fell prev i → length xs ≤ i → {b : Bool} → b ≡ set_from 63 fell → Looked xs zs all b
  unfolding some falls_after
  look-all {all} {fell} {prev} {i} l h e =
      let k : length zs ≤ i = omega arith in
      record {
        is-above = λ n. sym (or-false (set_from n all)) ∙ (rw (drop_of_length-le xs h, drop_of_length-le zs k) at (l.is-high n));
        is-fell = e ∙ sym (or-false (set_from 63 fell)) ∙ (rw (drop_of_length-le xs h) at l.is-fell);
      }
