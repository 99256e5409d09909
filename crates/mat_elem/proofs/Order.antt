-- Words that never fall, by any two of their places. Assumes nothing.
use Rattle.std.proofs.Common.{◌≡◌, ℕ, zero, suc, ◌<◌, ◌≤◌, false, ltb, List, [], ◌∷◌, length, get_or, le_trans, le_refl, le_of_suc-le-suc, not-suc-le-zero, ltb-false}
use Rattle.encoding.proofs.Scan.{none_of}
use Rattle.mat_elem.specs.Terms.{falls_after}

low : (p : ℕ) (ws : List ℕ) → falls_after p ws ≡ false → (k : ℕ) → k < length ws → p ≤ get_or ws k 0
unfolding falls_after
low p [] e k h = absurd (not-suc-le-zero h)
low p (w ∷ ws) e zero h = ltb-false w p (none_of (ltb w p) (falls_after w ws) e).0
low p (w ∷ ws) e (suc k) h =
    le_trans (ltb-false w p (none_of (ltb w p) (falls_after w ws) e).0) (low w ws (none_of (ltb w p) (falls_after w ws) e).1 k (le_of_suc-le-suc h))

pub rising : (p : ℕ) (ws : List ℕ) → falls_after p ws ≡ false → (i j : ℕ) → i ≤ j → j < length ws → get_or ws i 0 ≤ get_or ws j 0
unfolding falls_after
rising p [] e i j l h = absurd (not-suc-le-zero h)
rising p (w ∷ ws) e zero zero l h = le_refl w
rising p (w ∷ ws) e zero (suc j) l h = low w ws (none_of (ltb w p) (falls_after w ws) e).1 j (le_of_suc-le-suc h)
rising p (w ∷ ws) e (suc i) zero l h = absurd (not-suc-le-zero l)
rising p (w ∷ ws) e (suc i) (suc j) l h = rising w ws (none_of (ltb w p) (falls_after w ws) e).1 i j (le_of_suc-le-suc l) (le_of_suc-le-suc h)
