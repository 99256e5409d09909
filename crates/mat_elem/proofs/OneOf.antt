-- Exactly when a call gives a number, and exactly when it gives "no block", for any answer whose three cases differ. Assumes nothing.
-- By cases on the number and on whether there is a block: each case of the answer comes from one of them alone.
use Rattle.std.proofs.Common.{◌≡◌, ℕ, zero, suc, ◌<◌, Bool, true, false, ◌↔◌, List, length, get_or, sym, refl, ap, ap₂}
use Rattle.encoding.specs.Ranks.{TableLine, by_rank}
use Rattle.encoding.proofs.Ranks.{Given, given-exactly}
use Rattle.mat_elem.specs.Terms.{has_a_block}
use Rattle.mat_elem.specs.Sums.{one_of}
use Rattle.mat_elem.proofs.SumLaws.{no-term}

-- the three cases differ
pub record Differ {E : Type 0} (refused : ℕ → E) (none sum : E) : Type 0 where
  pub numbers : (j k : ℕ) → refused j ≡ refused k → j ≡ k
  pub refused_none : (j : ℕ) → refused j ≡ none → ⊥
  pub refused-sum : (j : ℕ) → refused j ≡ sum → ⊥
  pub none-sum : none ≡ sum → ⊥

module _ {E : Type 0} (refused : ℕ → E) (none sum : E) (d : Differ refused none sum) where
  abbrev answer : ℕ → Bool → E
  answer = one_of refused none sum

  number_of : (k j : ℕ) (b : Bool) → answer k b ≡ refused (suc j) → k ≡ suc j
  number_of zero j true e = absurd (d.refused-sum (suc j) (sym e))
  number_of zero j false e = absurd (d.refused_none (suc j) (sym e))
  number_of (suc k) j b e = d.numbers (suc k) (suc j) e

  none_of : (k : ℕ) (b : Bool) → answer k b ≡ none → (k ≡ 0) × (b ≡ false)
  none_of zero true e = absurd (d.none-sum (sym e))
  none_of zero false e = (refl, refl)
  none_of (suc k) b e = absurd (d.refused_none (suc k) e)

  -- a number of the table is given exactly when its line fits and none before it does
  pub refused-when : (ls : List TableLine) (b : Bool) (j : ℕ) → (answer (by_rank ls) b ≡ refused (suc j)) ↔ Given (suc j) ls
  refused-when ls b j = (λ e. (given-exactly ls j).0 (number_of (by_rank ls) j b e), λ f. ap (λ (k : ℕ). answer k b) ((given-exactly ls j).1 f))

  -- "no block" is given exactly when nothing is refused and no term has that X
  pub none-when : (k : ℕ) (xs : List ℕ) (t : ℕ) → (answer k (has_a_block xs t) ≡ none) ↔ ((k ≡ 0) × ((i : ℕ) → i < length xs → get_or xs i 0 ≡ t → ⊥))
  none-when k xs t =
      (λ e. let h = none_of k (has_a_block xs t) e in (h.0, (no-term xs t).0 h.1), λ h. ap₂ answer h.0 ((no-term xs t).1 h.1))
