-- RULES 7.9 to 7.12, "Walking a log back": entries are taken last to first, the target multiplied by the source's inverse, so the source's exponent is taken
-- negated. The refusals of the call, its answer, and the rows at its end. Assumes nothing.
use Rattle.std.specs.Prelude.{◌≡◌, List, [], ◌∷◌, ◌++◌, ℕ, zero, suc, ◌-◌, ◌%◌, length, Result, Ok, Err}
use Rattle.std.proofs.Math.Option.{Option, none, some}
use Rattle.pauli.specs.Row.{Row, mul_row}
use Rattle.encoding.specs.Set.{Mem, count, rows_of, lay}
use Rattle.encoding.specs.Refusals.{left_or}
use Rattle.reduction.specs.Rule.{Entry, mul_at}
use Rattle.reduction.specs.Log.{pairs}
use Rattle.reduction.specs.Checker.{first_bad}
use Rattle.encoding.specs.Ranks.{TableLine, by_rank}
use Rattle.terms.specs.Refused.{reduce_lines}
use Rattle.replay.specs.Check.{odd_log}
use Rattle.replay.specs.declared.NotUndone.{NotUndone}
use Rattle.replay.specs.declared.NotUndone.TheVariants as said

-- the inverse of a row: the same Paulis, the exponent negated mod 4 (`inverse-right`, `inverse_left` of proofs/Inverse.antt: the matrices are inverse)
unfoldable pub inverse : Row → Row
inverse r = record { ps = r.ps; p = (4 - r.p) % 4 }

-- row a by the inverse of row b
abbrev pub mul_inverse : ℕ → Row → Row → Row
mul_inverse n a b = mul_row n a (inverse b)

-- the rows after the entries, walked back: the last entry first
unfoldable pub undo : ℕ → (ℕ → Row) → List Entry → ℕ → Row
undo n σ [] = σ
undo n σ (e ∷ es) = mul_at (mul_inverse n) (undo n σ es) e.target e.source

-- ---- the call: rows, listed and extra rows, a log

-- by rank: what the checker has, of an order that names no column, so that there is no 15; then 9
abbrev pub undo_lines : ℕ → Mem → List ℕ → List ℕ → List ℕ → List TableLine
undo_lines n M listed extra log = reduce_lines n M [] listed extra ++ (odd_log (length log) ∷ [])

abbrev pub undo_fault : ℕ → Mem → List ℕ → List ℕ → List ℕ → ℕ
undo_fault n M listed extra log = by_rank (undo_lines n M listed extra log)

-- what the call answers: done, or not, at a bad entry or refused with a number
abbrev pub Undone : Type 0
Undone = Result Unit NotUndone

abbrev pub Done : Undone
Done = Ok tt

abbrev pub BadEntry : ℕ → Undone
BadEntry i = Err (said.BadEntry i)

abbrev pub Refused : ℕ → Undone
Refused k = Err (said.Refused (record { 0 = k }))

-- the first bad entry, by the checker's test, in log order; else done
abbrev pub undone_by : Option ℕ → Undone
undone_by (some i) = BadEntry i
undone_by none = Done

abbrev pub undone_or : ℕ → Option ℕ → Undone
undone_or zero o = undone_by o
undone_or (suc k) o = Refused (suc k)

-- the rows at the end: unchanged at a bad entry, else the log walked back
unfoldable pub back_by : ℕ → Option ℕ → (ℕ → Row) → List Entry → ℕ → Row
back_by n (some i) σ log = σ
back_by n none σ log = undo n σ log

abbrev pub back_for : ℕ → List ℕ → List ℕ → List ℕ → Mem → Mem
back_for n listed extra log M = lay n (count M) (back_by n (first_bad listed extra 0 (pairs log)) (rows_of n M) (pairs log))

pub record Undoes (n : ℕ) (listed extra log : List ℕ) (M M' : Mem) (r : Undone) : Type 0 where
  pub answer : r ≡ undone_or (undo_fault n M listed extra log) (first_bad listed extra 0 (pairs log))
  pub rows : M' ≡ left_or (undo_fault n M listed extra log) M (back_for n listed extra log M)
