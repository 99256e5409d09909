-- RULES 4.9, row a by row b of the same set, 5, "The reduction rule", and 6.4: what the three calls answer, and what they leave in rows,
-- phase words and log. f is the first number of the table that fits, 0 for none; a refusal leaves all as it was. Assumes nothing.
use Rattle.std.specs.Prelude.{ℕ, zero, suc, ◌+◌, ◌≡◌, List, [], length, Result, Ok, Err}
use Rattle.pauli.specs.Row.{Row, mul_row, bit_row}
use Rattle.pauli.specs.Rows.{clashes_of}
use Rattle.encoding.specs.Set.{Mem, count, rows_of, list, lay}
use Rattle.encoding.specs.Refusals.{set_lines, answer_or, left_or, rows_lines}
use Rattle.encoding.specs.Ranks.{by_rank}
use Rattle.reduction.specs.Rule.{Entry, mul_at}
use Rattle.reduction.specs.Log.{logged, capacity}
use Rattle.reduction.specs.Capacity.{Reduced, done, full, capped}
use Rattle.terms.specs.Refused.{reduce_fault}
use Rattle.encoding.specs.declared.Refusal.{Refusal}
use Rattle.terms.specs.declared.Canonicalized.{Canonicalized}
use Rattle.terms.specs.declared.Stopped.{Stopped}
use Rattle.terms.specs.declared.Stopped.TheVariants.{Full, Refused}

-- what a reduction answers
abbrev pub ReductionAnswer : Type 0
ReductionAnswer = Result Canonicalized Stopped

-- ---- row a is multiplied by row b, in place, and the number of clashes returned

pub record Multiplies (n a b : ℕ) (M M' : Mem) (r : Result ℕ Refusal) : Type 0 where
  pub answer : r ≡ answer_or (by_rank (rows_lines n M a b)) (clashes_of n (rows_of n M a) (rows_of n M b))
  pub rows : M' ≡ left_or (by_rank (rows_lines n M a b)) M (lay n (count M) (mul_at (mul_row n) (rows_of n M) a b))

-- ---- reduction with a log

-- done with so many entries and pivots, full with the log's capacity, refused with a number
abbrev pub Done : ℕ → ℕ → ReductionAnswer
Done k t = Ok (record { entries = k; t = t })

abbrev pub LogFull : ℕ → ReductionAnswer
LogFull room = Err (Full room)

abbrev pub RefusedBy : ℕ → ReductionAnswer
RefusedBy k = Err (Refused (record { 0 = k }))

-- the answers: 1 to 7 and 15, refused with that number; 8, full with the capacity; else done, with "the number of entries and t" (RULES 5.7)
abbrev pub answer_of : ℕ → ℕ → Reduced Row → ReductionAnswer
answer_of zero room (done s) = Done (length s.log) s.t
answer_of zero room (full l σ) = LogFull room
answer_of (suc k) room out = RefusedBy (suc k)

-- the table's number of each answer, 0 for done; and the number of the whole call: what is tested first, then 8 in the work
abbrev pub log_full : ℕ
log_full = 8

abbrev pub reduced_number : ReductionAnswer → ℕ
reduced_number (Ok c) = 0
reduced_number (Err (Full room)) = log_full
reduced_number (Err (Refused r)) = r.0

abbrev pub number_for : ℕ → Reduced Row → ℕ
number_for zero (done s) = 0
number_for zero (full l σ) = log_full
number_for (suc k) out = suc k

-- the rows and the entries that a reducer ends with
abbrev pub rows_left : Reduced Row → ℕ → Row
rows_left (done s) = s.rows
rows_left (full l σ) = σ

abbrev pub entries_left : Reduced Row → List Entry
entries_left (done s) = s.log
entries_left (full l σ) = l

-- what is left where f is the first number that fits, and out what the rule comes to
pub record Leaves (n f : ℕ) (out : Reduced Row) (M : Mem) (log : List ℕ) (M' : Mem) (log' : List ℕ) (r : ReductionAnswer) : Type 0 where
  pub answer : r ≡ answer_of f (capacity log) out
  pub number : reduced_number r ≡ number_for f out
  pub rows : M' ≡ left_or f M (lay n (count M) (rows_left out))
  pub entries : log' ≡ left_or f log (logged (entries_left out) log)

-- the rule over the rows in memory, with the log that is lent
abbrev pub outcome_of : ℕ → List ℕ → List ℕ → List ℕ → Mem → List ℕ → Reduced Row
outcome_of n order listed extra M log = capped (bit_row n) (mul_row n) (capacity log) order listed extra (rows_of n M)

abbrev pub Reduces : ℕ → List ℕ → List ℕ → List ℕ → Mem → List ℕ → Mem → List ℕ → ReductionAnswer → Type 0
Reduces n order listed extra M log M' log' r = Leaves n (reduce_fault n M order listed extra) (outcome_of n order listed extra M log) M log M' log' r

-- all columns, X of each qubit and then Z; all rows listed, in order; no extra rows
abbrev pub up_to : ℕ → List ℕ
up_to k = list k (λ i. i)

abbrev pub whole_outcome : ℕ → Mem → List ℕ → Reduced Row
whole_outcome n M log = outcome_of n (up_to (n + n)) (up_to (count M)) [] M log

abbrev pub ReducesAll : ℕ → Mem → List ℕ → Mem → List ℕ → ReductionAnswer → Type 0
ReducesAll n M log M' log' r = Leaves n (by_rank (set_lines n M)) (whole_outcome n M log) M log M' log' r
