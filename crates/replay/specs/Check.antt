-- RULES 7, "The replay checker", and 9, "Refusals": what a check is given, its refusals, its answer, and the working rows at its end. The
-- verdict itself stands in reduction's specs/Checker.antt. Assumes nothing.
use Rattle.std.specs.Prelude.{◌≡◌, List, [], ◌∷◌, ◌++◌, ℕ, length, Result, Ok, Err}
use Rattle.pauli.specs.Row.{mul_row, bit_row, same_row}
use Rattle.encoding.specs.Limits.{words_of}
use Rattle.encoding.specs.Words.{odd}
use Rattle.encoding.specs.Set.{Mem, count, rows_of, lay, Valid}
use Rattle.encoding.specs.Refusals.{set_lines, answer_or, left_or}
use Rattle.reduction.specs.Log.{pairs}
use Rattle.reduction.specs.Checker.{verdict, working, bad_entry, differs, not_reduced, accepted}
use Rattle.reduction.specs.Checker as checker
use Rattle.encoding.specs.Ranks.{TableLine, line, by_rank, joined}
use Rattle.terms.specs.Refused.{reduce_lines, Reducible}
use Rattle.encoding.specs.declared.Refusal.{Refusal}
use Rattle.replay.specs.declared.Verdict.{Verdict}
use Rattle.replay.specs.declared.Verdict.TheVariants as said

-- What was to be reduced: n qubits, the starting rows, the column order, the listed and the extra rows.
pub record Task : Type 0 where
  pub n : ℕ
  pub start : Mem
  pub order : List ℕ
  pub listed : List ℕ
  pub extra : List ℕ

abbrev pub task : ℕ → Mem → List ℕ → List ℕ → List ℕ → Task
task n start order listed extra = record { n = n; start = start; order = order; listed = listed; extra = extra }

-- What is claimed: a log, the whole slice, and the rows that it is to lead to.
pub record Claim : Type 0 where
  pub log : List ℕ
  pub rows : Mem

abbrev pub claim : List ℕ → Mem → Claim
claim log rows = record { log = log; rows = rows }

-- ---- refusals

-- what was to be reduced: 1 to 5 of the starting rows, then the order and the lists
abbrev pub task_lines : Task → List TableLine
task_lines T = reduce_lines T.n T.start T.order T.listed T.extra

-- 1 to 5 of the claimed rows, "a set of the same n and m" (RULES 7.8): they are lent with the m of the call, so that another m is a length, 3
abbrev pub claim_lines : ℕ → Mem → List TableLine
claim_lines n claimed = set_lines n claimed

-- 9: a log of odd length
abbrev pub odd_log : ℕ → TableLine
odd_log units = line 9 (odd units)

-- by rank: both, then 9
abbrev pub check_lines : Task → Claim → List TableLine
check_lines T L = joined (task_lines T) (claim_lines T.n L.rows) ++ (odd_log (length L.log) ∷ [])

abbrev pub check_fault : Task → Claim → ℕ
check_fault T L = by_rank (check_lines T L)

-- What they leave: of what was to be reduced, a row set within the limits, listed rows and columns each once, numbers below
-- their limits;
abbrev pub TaskPassed : Task → Type 0
TaskPassed T = Reducible T.n T.order T.listed T.extra T.start

-- of what is claimed, a row set of the same n and m.
pub record ClaimPassed (n m : ℕ) (claimed : Mem) : Type 0 where
  pub claimed-set : Valid n (words_of n) claimed
  pub as_many : count claimed ≡ m

pub record Passed (T : Task) (claimed : Mem) : Type 0 where
  pub of-task : TaskPassed T
  pub of-claim : ClaimPassed T.n (count T.start) claimed

-- ---- the answer

-- the verdicts by their names in the code
abbrev pub given : checker.Verdict → Verdict
given (bad_entry i) = said.BadEntry i
given (differs k) = said.Differs k
given not_reduced = said.NotReduced
given accepted = said.Yes

-- what a check answers: a verdict, or refused with a number
abbrev pub CheckAnswer : Type 0
CheckAnswer = Result Verdict Refusal

abbrev pub BadEntry : ℕ → CheckAnswer
BadEntry i = Ok (said.BadEntry i)

abbrev pub Differs : ℕ → CheckAnswer
Differs k = Ok (said.Differs k)

abbrev pub NotReduced : CheckAnswer
NotReduced = Ok said.NotReduced

abbrev pub Yes : CheckAnswer
Yes = Ok said.Yes

abbrev pub Refused : ℕ → CheckAnswer
Refused k = Err (record { 0 = k })

abbrev pub given_or : ℕ → checker.Verdict → CheckAnswer
given_or f v = answer_or f (given v)

-- the verdict on the claim
abbrev pub verdict_on : Task → Claim → checker.Verdict
verdict_on T L =
    verdict (bit_row T.n) (mul_row T.n) (same_row T.n) (count T.start) T.order T.listed T.extra
    (rows_of T.n T.start) (pairs L.log) (rows_of T.n L.rows)

-- the working rows at the end, laid in memory: the starting rows at a bad entry, else the full replay
abbrev pub working_for : Task → Claim → Mem
working_for T L = lay T.n (count T.start) (working (mul_row T.n) T.listed T.extra (rows_of T.n T.start) (pairs L.log))

-- The call: its answer r, and what it leaves in the memory of the working rows.
pub record Checked (T : Task) (L : Claim) (r : CheckAnswer) (left : Mem) : Type 0 where
  pub answer : r ≡ given_or (check_fault T L) (verdict_on T L)
  pub rows : left ≡ left_or (check_fault T L) T.start (working_for T L)
  -- what is not refused is two row sets, an order and lists
  pub passed : check_fault T L ≡ 0 → Passed T L.rows
