-- docs/CALLS.md, "Calls": which call a name is. Assumes nothing.
use Rattle.std.specs.Prelude.{Bool, true, false, cond, ◌&&◌, List, [], ◌∷◌, ◌++◌, ℕ, suc, eqb}
use Rattle.forms.specs.Answers.{letters}
use Rattle.naming.specs.declared.OfTwo.TheVariants.{Get, Phase, Table, Comm}
use Rattle.naming.specs.declared.OfOne.TheVariants.{Count, Central}
use Rattle.naming.specs.declared.Lends.TheVariants.{Act, Matrix, Write, Pair}
use Rattle.naming.specs.declared.Changes.TheVariants as change
use Rattle.naming.specs.declared.Reduces.TheVariants as reduce
use Rattle.naming.specs.declared.OnSet.TheVariants.{Two, One, Lent, Changed, Reduced}
use Rattle.naming.specs.declared.Call.{Call}
use Rattle.naming.specs.declared.Call.TheVariants.{Unknown, Phase1, Act1, Whole, Float, States, Pwl, Set}

-- two texts are the same
abbrev pub same : List ℕ → List ℕ → Bool
same [] [] = true
same [] (d ∷ t) = false
same (c ∷ s) [] = false
same (c ∷ s) (d ∷ t) = eqb c d && same s t

-- the calls of a table's names; another where none of them is it
abbrev pub by_name : List (List ℕ × Call) → List ℕ → Call → Call
by_name [] w other = other
by_name (e ∷ l) w other = cond (same w e.0) e.1 (by_name l w other)

abbrev pub of_two : List (List ℕ × Call)
of_two =
    (letters "get", Set (Two Get)) ∷ (letters "phase", Set (Two Phase)) ∷ (letters "phaset", Set (Two Table))
    ∷ (letters "comm", Set (Two Comm)) ∷ []

abbrev pub of_one : List (List ℕ × Call)
of_one = (letters "count", Set (One Count)) ∷ (letters "central", Set (One Central)) ∷ []

abbrev pub lending : List (List ℕ × Call)
lending =
    (letters "act", Set (Lent Act)) ∷ (letters "matrix", Set (Lent Matrix)) ∷ (letters "write", Set (Lent Write))
    ∷ (letters "pair", Set (Lent Pair)) ∷ []

abbrev pub changing : List (List ℕ × Call)
changing =
    (letters "imul", Set (Changed change.Imul)) ∷ (letters "set", Set (Changed change.Set)) ∷ (letters "gate", Set (Changed change.Gate))
    ∷ (letters "read", Set (Changed change.Read)) ∷ (letters "readx", Set (Changed change.Readx)) ∷ []

abbrev pub reducing : List (List ℕ × Call)
reducing =
    (letters "reduce", Set (Reduced reduce.Reduce)) ∷ (letters "reduceall", Set (Reduced reduce.All))
    ∷ (letters "check", Set (Reduced reduce.Check)) ∷ (letters "undo", Set (Reduced reduce.Undo)) ∷ []

-- calls that have no set, and the one that has it twice
abbrev pub others : List (List ℕ × Call)
others =
    (letters "phase1", Phase1) ∷ (letters "act1", Act1) ∷ (letters "elemi", Whole) ∷ (letters "elemf", Float) ∷ (letters "elems", States)
    ∷ (letters "pwl", Pwl) ∷ []

abbrev pub names : List (List ℕ × Call)
names = others ++ (of_two ++ (of_one ++ (lending ++ (changing ++ reducing))))

unfoldable pub call_of : List ℕ → Call
call_of w = by_name names w Unknown

-- a line starts with its name, which ends at the first space or with the line
unfoldable pub name_end : List ℕ → ℕ
name_end [] = 0
name_end (c ∷ t) = cond (eqb c 32) 0 (suc (name_end t))
