-- The rule as a loop does it: before each product it looks whether the entry fits, and a run that is full goes no further. This is no definition
-- to be believed: `stops-is-capped` of proofs/Stop.antt proves that it is `capped`. The loops of the reducer are proved against it. Assumes nothing.
use Rattle.std.specs.Prelude.{ℕ, suc, ◌<◌, Bool, cond, not, ◌&&◌, List, [], ◌∷◌, ◌++◌, eqb, ltb, length, get_or, drop}
use Rattle.std.proofs.Math.Option.{Option, none, some}
use Rattle.reduction.specs.Rule.{Run, multiply, counted, first}
use Rattle.reduction.specs.Capacity.{Reduced, done, full}

-- the next piece, unless the log is full
unfoldable pub and_then : {R : Type 0} → Reduced R → (Run R → Reduced R) → Reduced R
and_then (done s) f = f s
and_then (full l σ) f = full l σ

-- a piece for each number of the list
unfoldable pub through : {R : Type 0} → (ℕ → Run R → Reduced R) → List ℕ → Run R → Reduced R
through f [] s = done s
through f (k ∷ ks) s = and_then (f k s) (λ s'. through f ks s')

-- `multiply`, if the entry fits
unfoldable pub multiply_c : {R : Type 0} → (R → R → R) → ℕ → ℕ → ℕ → Run R → Reduced R
multiply_c mul capacity a b s = cond (ltb (length s.log) capacity) (done (multiply mul a b s)) (full s.log s.rows)

module _ {R : Type 0} (bit : R → ℕ → Bool) (mul : R → R → R) (capacity : ℕ) where
  -- row k of `clear`
  unfoldable pub turn_c : ℕ → ℕ → ℕ → Run R → Reduced R
  turn_c c p k s = cond (not (eqb k p) && bit (s.rows k) c) (multiply_c mul capacity k p s) (done s)

  -- the pivot by the row found
  unfoldable pub lead_c : ℕ → ℕ → Run R → Reduced R
  lead_c p f s = cond (eqb f p) (done s) (multiply_c mul capacity p f s)

  -- a pivot's entries, before t is counted up
  unfoldable pub pivot_c : List ℕ → ℕ → ℕ → ℕ → Run R → Reduced R
  pivot_c all c p f s = and_then (lead_c p f s) (λ s'. through (turn_c c p) all s')

  unfoldable pub column_by_c : List ℕ → List ℕ → ℕ → Option ℕ → Run R → Reduced R
  column_by_c listed extra c none s = done s
  column_by_c listed extra c (some f) s = and_then (pivot_c (listed ++ extra) c (get_or listed s.t 0) f s) (λ s'. done (counted s'))

  unfoldable pub column_c : List ℕ → List ℕ → ℕ → Run R → Reduced R
  column_c listed extra c s = column_by_c listed extra c (first bit s.rows c (drop s.t listed)) s

-- ---- lists of numbers, as loops see them

-- the numbers of a list are below m
abbrev pub Below : ℕ → List ℕ → Type 0
Below m l = (i : ℕ) → i < length l → get_or l i 0 < m

-- the first place of the list whose number passes the test; the list's length if there is none
unfoldable pub first_place : (ℕ → Bool) → List ℕ → ℕ
first_place f [] = 0
first_place f (k ∷ ks) = cond (f k) 0 (suc (first_place f ks))
