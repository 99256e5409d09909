-- The lines of docs/AUDITOR.md, by the definitions of the contract: what the checker answers to each, and the working rows at its end. All is closed, so that
-- unfolding what does not compute by itself leaves `refl`. Assumes nothing.
use mathlib.Core.Path.{◌≡◌, refl}
use mathlib.Core.List.{List, [], ◌∷◌}
use Prim.Native.Nat.{ℕ}
use Rattle.pauli.specs.Row.{pad_mul, mul_row, bit_of, same_qubits}
use Rattle.encoding.specs.Words.{word, unpack, join, pack, lay_rows}
use Rattle.encoding.specs.Set.{Mem, mem_of, word_in, exponent_at, lay_exponents, rows_held, list, lay_in}
use Rattle.encoding.specs.Refusals.{some, some_below, bad_bits, bad_phases, answer_or, left_or}
use Rattle.reduction.specs.Lists.{All, has, distinct, every}
use Rattle.reduction.specs.Rule.{mul_at}
use Rattle.reduction.specs.Replay.{replay}
use Rattle.reduction.specs.Log.{pairs}
use Rattle.reduction.specs.Form.{zeros_in, only_in, reduced_from, reduced}
use Rattle.reduction.specs.Checker.{good, first_bad, first_diff, verdict_by, verdict, working, working_by}
use Rattle.encoding.specs.Ranks.{by_rank, place_in, placed, joined}
use Rattle.replay.specs.Check.{Task, task, Claim, claim, check_fault, given_or, verdict_on, working_for, CheckAnswer, BadEntry, Differs, NotReduced, Yes, Refused}

-- a line and its answer
pub record Line : Type 0 where
  pub given : Task
  pub claimed : Claim
  pub says : CheckAnswer
  pub left : Mem

-- the contract allows this answer and these working rows, and by `determined` no others
abbrev pub Answered : Line → Type 0
Answered l =
    (l.says ≡ given_or (check_fault l.given l.claimed) (verdict_on l.given l.claimed))
    × (l.left ≡ left_or (check_fault l.given l.claimed) l.given.start (working_for l.given l.claimed))

-- P9: Z0, X0X1, Y0
abbrev start : Mem
start = mem_of 3 (0 ∷ 3 ∷ 1 ∷ []) (1 ∷ 0 ∷ 1 ∷ []) (0 ∷ [])

abbrev p9 : Task
p9 = task 2 start (0 ∷ 1 ∷ 2 ∷ 3 ∷ []) (0 ∷ 1 ∷ 2 ∷ []) []

abbrev log : List ℕ
log = 0 ∷ 1 ∷ 1 ∷ 0 ∷ 2 ∷ 0 ∷ 1 ∷ 2 ∷ 0 ∷ 1 ∷ 2 ∷ 1 ∷ 1 ∷ 2 ∷ []

-- X0 with 1, X1 with 3, Z0 with 0
abbrev end : Mem
end = mem_of 3 (1 ∷ 2 ∷ 0 ∷ []) (0 ∷ 0 ∷ 1 ∷ []) (13 ∷ [])

-- after six entries (P10)
abbrev six : Mem
six = mem_of 3 (1 ∷ 2 ∷ 0 ∷ []) (0 ∷ 1 ∷ 1 ∷ []) (13 ∷ [])

-- X and Z of one qubit
abbrev two : List ℕ → Task
two order = task 1 (mem_of 2 (1 ∷ 0 ∷ []) (0 ∷ 1 ∷ []) (0 ∷ [])) order (0 ∷ 1 ∷ []) []

abbrev two-rows : List ℕ → ℕ → Mem
two-rows z p = mem_of 2 (1 ∷ 0 ∷ []) z (p ∷ [])

abbrev pub lines : List Line
lines =
    record { given = p9; claimed = claim log end; says = Yes; left = end }
    ∷ record { given = p9; claimed = claim (0 ∷ 1 ∷ 1 ∷ 0 ∷ 2 ∷ 0 ∷ 2 ∷ 2 ∷ 0 ∷ 1 ∷ 2 ∷ 1 ∷ 1 ∷ 2 ∷ []) end; says = BadEntry 3; left = start }
    ∷ record { given = p9; claimed = claim log (mem_of 3 (1 ∷ 2 ∷ 0 ∷ []) (0 ∷ 0 ∷ 3 ∷ []) (13 ∷ [])); says = Differs 2; left = end }
    ∷ record { given = p9; claimed = claim log (mem_of 3 (1 ∷ 2 ∷ 0 ∷ []) (0 ∷ 0 ∷ 1 ∷ []) (5 ∷ [])); says = Differs 1; left = end }
    ∷ record { given = p9; claimed = claim (0 ∷ 1 ∷ 1 ∷ 0 ∷ 2 ∷ 0 ∷ 1 ∷ 2 ∷ 0 ∷ 1 ∷ 2 ∷ 1 ∷ []) six; says = NotReduced; left = six }
    ∷ record { given = two (0 ∷ []); claimed = claim [] (two-rows (0 ∷ 1 ∷ []) 0); says = Yes; left = two-rows (0 ∷ 1 ∷ []) 0 }
    ∷ record { given = two (0 ∷ []); claimed = claim (0 ∷ 1 ∷ []) (two-rows (1 ∷ 1 ∷ []) 3); says = Yes; left = two-rows (1 ∷ 1 ∷ []) 3 }
    ∷ record { given = two (0 ∷ 1 ∷ []); claimed = claim [] (two-rows (0 ∷ 1 ∷ []) 0); says = Yes; left = two-rows (0 ∷ 1 ∷ []) 0 }
    ∷ record { given = two (0 ∷ 1 ∷ []); claimed = claim (0 ∷ 1 ∷ 1 ∷ 0 ∷ 0 ∷ 1 ∷ 0 ∷ 1 ∷ 1 ∷ 0 ∷ 0 ∷ 1 ∷ []) (two-rows (0 ∷ 1 ∷ []) 10); says = Yes; left = two-rows (0 ∷ 1 ∷ []) 10 }
    ∷ record { given = two (0 ∷ 0 ∷ []); claimed = claim (0 ∷ []) (two-rows (0 ∷ 1 ∷ []) 0); says = Refused 15; left = two-rows (0 ∷ 1 ∷ []) 0 }
    ∷ []

pub page : All Answered lines
unfolding answer_or pad_mul mul_row bit_of same_qubits word unpack join pack lay_rows word_in exponent_at lay_exponents rows_held list lay_in by_rank place_in placed joined some some_below bad_bits bad_phases has distinct every mul_at replay pairs zeros_in only_in reduced_from reduced good first_bad first_diff verdict_by verdict working working_by
page = ((refl, refl), ((refl, refl), ((refl, refl), ((refl, refl), ((refl, refl), ((refl, refl), ((refl, refl), ((refl, refl), ((refl, refl), ((refl, refl), tt))))))))))
