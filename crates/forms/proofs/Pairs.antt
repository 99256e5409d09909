-- A log as pairs: as many as half of its units, and pair i is of units 2i and 2i + 1.
-- Assumes nothing.
use Rattle.forms.proofs.Kit.{◌≡◌, refl, sym, ap, ◌∙◌, List, [], ◌∷◌, ℕ, ◌+◌, ◌*◌, ◌<◌, arith, length, get_or}
use Prim.Native.Nat.{zero, suc, ◌/◌}
use Rattle.forms.specs.Answers.{pairs_of}

pub length_pairs : (l : List ℕ) → length (pairs_of l) ≡ length l / 2
length_pairs [] = refl
length_pairs (a ∷ []) = refl
length_pairs (a ∷ b ∷ l) = let h = length_pairs l in omega arith

pub pair-at : (l : List ℕ) (i : ℕ) → i < length l / 2 → get_or (pairs_of l) i (0, 0) ≡ (get_or l (2 * i) 0, get_or l (2 * i + 1) 0)
pair-at [] i h = absurd (omega arith)
pair-at (a ∷ []) i h = absurd (omega arith)
pair-at (a ∷ b ∷ l) zero h = refl
pair-at (a ∷ b ∷ l) (suc i) h =
    let e : 2 * suc i ≡ suc (suc (2 * i)) = omega arith in
    let f : 2 * suc i + 1 ≡ suc (suc (2 * i + 1)) = omega arith in
    let L = a ∷ b ∷ l in
    pair-at l i (omega arith)
    ∙ sym (ap (λ (k : ℕ). (get_or L k 0, get_or L (2 * suc i + 1) 0)) e ∙ ap (λ (k : ℕ). (get_or L (suc (suc (2 * i))) 0, get_or L k 0)) f)
