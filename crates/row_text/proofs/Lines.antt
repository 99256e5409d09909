-- The lines of the two calls, those of a set and a row number above the one of the text: the number of the first where it is not 0, else that of the second.
-- Assumes nothing.
use Rattle.row_text.proofs.Kit.{◌≡◌, refl, ap, ◌∙◌, Bool, true, false, cond, List, [], ◌∷◌, ℕ}
use mathlib.Core.Bool.{not}
use Rattle.encoding.specs.Set.{Mem, rows_of}
use Rattle.encoding.specs.Refusals.{row_lines}
use Rattle.encoding.specs.Ranks.{by_rank, place_in, placed, joined}
use Rattle.encoding.proofs.Faults.{or_else}
use Rattle.encoding.proofs.Ranks.{counted, rank-append}
use Rattle.cmpnt_list.specs.Calls.{row_fault}
use Rattle.row_text.specs.Text.{is_text}
use Rattle.row_text.specs.Calls.{short_line, text_line, fmt_fault, parse_fault}
use Rattle.row_text.specs.Workers.{falls_short, no_text_number}

row-counted : (n : ℕ) (M : Mem) (r : ℕ) → counted (row_lines n M r) ≡ true
unfolding place_in placed joined
row-counted n M r = refl

pub fmt-in-turn : (n : ℕ) (M : Mem) (r : ℕ) (out : List ℕ) → fmt_fault n M r out ≡ or_else (row_fault n M r) (falls_short (rows_of n M r).ps out)
unfolding by_rank
fmt-in-turn n M r out = rank-append (row_lines n M r) (short_line (rows_of n M r).ps out ∷ []) (row-counted n M r)

pub parse-in-turn : (n : ℕ) (M : Mem) (r : ℕ) (t : List ℕ) → parse_fault n M r t ≡ or_else (row_fault n M r) (no_text_number n t)
unfolding by_rank
parse-in-turn n M r t = rank-append (row_lines n M r) (text_line n t ∷ []) (row-counted n M r) ∙ ap (or_else (row_fault n M r)) (go (is_text n t))
  where
    go : (b : Bool) → ◌≡◌ {A = ℕ} (cond (not b) 13 0) (cond b 0 13)
    go true = refl
    go false = refl
