-- RULES 6.1 to 6.3: the log is u16 pairs, target then source; capacity is half the lent length rounded down; units past the last entry keep their content.
-- Assumes nothing.
use Rattle.std.specs.Prelude.{ℕ, ◌/◌, List, [], ◌∷◌, ◌++◌, length, drop}
use Rattle.reduction.specs.Rule.{Entry, entry}

-- reading: the entries of a lent log; a last unit without another is none
unfoldable pub pairs : List ℕ → List Entry
pairs [] = []
pairs (a ∷ []) = []
pairs (a ∷ b ∷ l) = entry a b ∷ pairs l

-- writing: the units of entries
unfoldable pub units : List Entry → List ℕ
units [] = []
units (e ∷ es) = e.target ∷ e.source ∷ units es

-- the lent log with entries written from its start on
unfoldable pub logged : List Entry → List ℕ → List ℕ
logged es old = units es ++ drop (length (units es)) old

abbrev pub capacity : List ℕ → ℕ
capacity log = length log / 2
