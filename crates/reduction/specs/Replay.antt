-- Replay of a log: its entries are done to the rows, one after another. Products of several rows. Assumes nothing.
use Rattle.std.specs.Prelude.{ℕ, List, [], ◌∷◌}
use Rattle.reduction.specs.Rule.{Entry, mul_at}

module _ {R : Type 0} (mul : R → R → R) where
  unfoldable pub replay : (ℕ → R) → List Entry → ℕ → R
  replay σ [] = σ
  replay σ (e ∷ es) = replay (mul_at mul σ e.target e.source) es

  -- r times the rows of the numbers in the list, one after another
  unfoldable pub product_of : (ℕ → R) → R → List ℕ → R
  product_of σ r [] = r
  product_of σ r (k ∷ ks) = product_of σ (mul r (σ k)) ks
