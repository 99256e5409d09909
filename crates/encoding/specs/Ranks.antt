-- RULES 9, lines by rank: a line of the table is a number and its test for a call. Its rank is its place in the table of 9.4, not its number. The lines of a
-- call stand by rank, and the first that holds gives its number; 0 stands for none. Assumes nothing.
use Rattle.std.specs.Prelude.{Bool, cond, List, [], ◌∷◌, ℕ, suc, eqb, leb}

pub record TableLine : Type 0 where
  pub number : ℕ
  pub holds : Bool

abbrev pub line : ℕ → Bool → TableLine
line k t = record { number = k; holds = t }

unfoldable pub by_rank : List TableLine → ℕ
by_rank [] = 0
by_rank (l ∷ ls) = cond l.holds l.number (by_rank ls)

-- RULES 9.4: the numbers of the table, from the top down
abbrev pub table : List ℕ
table = 17 ∷ 18 ∷ 19 ∷ 20 ∷ 1 ∷ 2 ∷ 3 ∷ 4 ∷ 5 ∷ 6 ∷ 21 ∷ 7 ∷ 15 ∷ 8 ∷ 9 ∷ 10 ∷ 11 ∷ 12 ∷ 16 ∷ 13 ∷ 14 ∷ []

-- the place of k in a list, its end where k is not there
unfoldable pub place_in : List ℕ → ℕ → ℕ
place_in [] k = 0
place_in (j ∷ js) k = cond (eqb j k) 0 (suc (place_in js k))

abbrev pub rank : ℕ → ℕ
rank k = place_in table k

-- RULES 9.2: the lines of two parts of a call, each number tested over both before the next
unfoldable pub placed : TableLine → List TableLine → List TableLine
placed l [] = l ∷ []
placed l (u ∷ us) = cond (leb (rank l.number) (rank u.number)) (l ∷ u ∷ us) (u ∷ placed l us)

unfoldable pub joined : List TableLine → List TableLine → List TableLine
joined [] us = us
joined (l ∷ ls) us = placed l (joined ls us)
