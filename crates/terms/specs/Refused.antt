-- RULES 9.4, refusals 6, 7 and 15, of the column order and the lists that a reduction and its check take: n qubits, m rows. Assumes nothing.
use Rattle.std.specs.Prelude.{Bool, not, ◌||◌, List, [], ◌∷◌, ◌++◌, ℕ, ◌+◌}
use Rattle.encoding.specs.Set.{Mem, count, Sound}
use Rattle.encoding.specs.Refusals.{some, too_large, set_lines}
use Rattle.reduction.specs.Lists.{Distinct, distinct}
use Rattle.reduction.specs.Demand.{Asked}
use Rattle.encoding.specs.Ranks.{TableLine, line, by_rank}

-- 6: a column number of 2n or above in the order, or a row number of m or above in a list
abbrev pub large_number : ℕ → ℕ → List ℕ → List ℕ → List ℕ → Bool
large_number n m order listed extra = some (too_large (n + n)) order || (some (too_large m) listed || some (too_large m) extra)

-- a number of the list is there twice; 7: in the listed rows
abbrev pub repeated : List ℕ → Bool
repeated l = not (distinct l)

-- 15, after 7: in the order
abbrev pub column_twice : List ℕ → TableLine
column_twice order = line 15 (repeated order)

abbrev pub list_lines : ℕ → ℕ → List ℕ → List ℕ → List ℕ → List TableLine
list_lines n m order listed extra = line 6 (large_number n m order listed extra) ∷ line 7 (repeated listed) ∷ column_twice order ∷ []

-- a set that is read, 1 to 5, then its order and lists
abbrev pub reduce_lines : ℕ → Mem → List ℕ → List ℕ → List ℕ → List TableLine
reduce_lines n M order listed extra = set_lines n M ++ list_lines n (count M) order listed extra

abbrev pub reduce_fault : ℕ → Mem → List ℕ → List ℕ → List ℕ → ℕ
reduce_fault n M order listed extra = by_rank (reduce_lines n M order listed extra)

-- What they leave: a row set within the limits, listed rows and columns each once, numbers below their limits.
pub record Reducible (n : ℕ) (order listed extra : List ℕ) (M : Mem) : Type 0 where
  pub sound : Sound n M
  pub asked : Asked (n + n) (count M) order listed extra
  pub columns-once : Distinct order
