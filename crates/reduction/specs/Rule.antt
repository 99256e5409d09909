-- RULES 5.1 to 5.6, "The reduction rule": over any kind R of row that has bits (a Bool at each column number) and a product. The rows of a set are
-- a function from row number to row. Each definition has the words that it stands for above it. Assumes nothing.
use Rattle.std.specs.Prelude.{ℕ, suc, Bool, cond, not, ◌&&◌, List, [], ◌∷◌, ◌++◌, eqb, get_or, drop}
use Rattle.std.proofs.Math.Option.{Option, none, some}

-- RULES 6.1, "two units, target then source": row `target` was multiplied by row `source`.
pub record Entry : Type 0 where
  pub target : ℕ
  pub source : ℕ

abbrev pub entry : ℕ → ℕ → Entry
entry a b = record { target = a; source = b }

-- What a run has come to: the rows, the log so far, the pivot count t.
pub record Run (R : Type 0) : Type 0 where
  pub rows : ℕ → R
  pub log : List Entry
  pub t : ℕ

module _ {R : Type 0} (mul : R → R → R) where
  -- row a is multiplied by row b, in place
  unfoldable pub mul_at : (ℕ → R) → ℕ → ℕ → ℕ → R
  mul_at σ a b k = cond (eqb k a) (mul (σ a) (σ b)) (σ k)

  -- RULES 5.4 and 5.5: a is multiplied by b, and (a, b) is logged
  unfoldable pub multiply : ℕ → ℕ → Run R → Run R
  multiply a b s = record { rows = mul_at s.rows a b; log = s.log ++ (entry a b ∷ []); t = s.t }

-- RULES 5.6, "Add 1 to t."
unfoldable pub counted : {R : Type 0} → Run R → Run R
counted s = record { rows = s.rows; log = s.log; t = suc s.t }

-- RULES 5.3, "the first listed row .. whose bit at c is 1": the first row of the list with bit c set
unfoldable pub first : {R : Type 0} → (R → ℕ → Bool) → (ℕ → R) → ℕ → List ℕ → Option ℕ
first bit σ c [] = none
first bit σ c (k ∷ ks) = cond (bit (σ k) c) (some k) (first bit σ c ks)

module _ {R : Type 0} (bit : R → ℕ → Bool) (mul : R → R → R) where
  -- RULES 5.5, "Each row other than the pivot .. whose bit at c is 1 is multiplied by the pivot, and (row, pivot) is logged": through the list, column c, pivot p
  unfoldable pub clear : ℕ → ℕ → List ℕ → Run R → Run R
  clear c p [] s = s
  clear c p (k ∷ ks) s = clear c p ks (cond (not (eqb k p) && bit (s.rows k) c) (multiply mul k p s) s)

  -- The pivot p and the row found, f. RULES 5.4, "If the row found is another, multiply the pivot by the row found, and log (pivot, found)", and 5.5,
  -- "go through all listed rows .. and after them through the extra rows" (`all`): the others are cleared.
  unfoldable pub pivot : List ℕ → ℕ → ℕ → ℕ → Run R → Run R
  pivot all c p f s = counted (clear c p all (cond (eqb f p) s (multiply mul p f s)))

  -- RULES 5.3, "If there is none, go on to the next column", and 5.4, "The pivot is the listed row at place t"
  unfoldable pub column_by : List ℕ → List ℕ → ℕ → Option ℕ → Run R → Run R
  column_by listed extra c none s = s
  column_by listed extra c (some f) s = pivot (listed ++ extra) c (get_or listed s.t 0) f s

  -- RULES 5.3, "Find the first listed row, from place t on, whose bit at c is 1"
  unfoldable pub column : List ℕ → List ℕ → ℕ → Run R → Run R
  column listed extra c s = column_by listed extra c (first bit s.rows c (drop s.t listed)) s

  -- RULES 5.2, "The columns of the order are taken one after another"
  unfoldable pub columns : List ℕ → List ℕ → List ℕ → Run R → Run R
  columns listed extra [] s = s
  columns listed extra (c ∷ cs) s = columns listed extra cs (column listed extra c s)

  -- The reduction rule, from the rows σ. RULES 5.2, "The pivot count t starts at 0 and the log empty".
  unfoldable pub reduce : List ℕ → List ℕ → List ℕ → (ℕ → R) → Run R
  reduce order listed extra σ = columns listed extra order (record { rows = σ; log = []; t = 0 })
