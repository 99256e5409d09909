-- What the private functions ask and leave: a set and a gate that passed their tests, one row changed. Assumes nothing.
use Rattle.std.specs.Prelude.{◌≡◌, Bool, false, cond, not, ◌&&◌, List, ℕ, ◌+◌, ◌/◌, ◌%◌, ◌<◌, get_or, set}
use Rattle.pauli.specs.declared.PauliMatrix.TheVariants.{I}
use Rattle.pauli.specs.Row.{Row}
use Rattle.encoding.specs.Set.{Mem, count, rows_of, lay, Sound}
use Rattle.gates.specs.Places.{Places}
use Rattle.gates.specs.Gates.{touched, differ}
use Rattle.gates.specs.declared.Gate.{Gate}
use Rattle.encoding.specs.Words.{bit_at}
use Rattle.one_qubit.specs.Leaves.{turned_pauli, at_row}

-- no line of the table fits
pub record Ready (n : ℕ) (g : Gate) (M : Mem) : Type 0 where
  pub sound : Sound n M
  pub places : Places n (touched g)

-- and r is one of its rows
pub record RowReady (n r : ℕ) (g : Gate) (M : Mem) : Type 0 where
  pub ready : Ready n g M
  pub row_in : r < count M

-- the same of one qubit of a row
pub record QubitReady (n r q : ℕ) (M : Mem) : Type 0 where
  pub sound : Sound n M
  pub row_in : r < count M
  pub qubit-in : q < n

-- row r was changed by f, and no other
abbrev pub Changed : ℕ → ℕ → (Row → Row) → Mem → Mem → Type 0
Changed n r f M M' = M' ≡ lay n (count M) (at_row (rows_of n M) r f)

-- bit q of a run of words, 64 to a word
abbrev pub bit_in : List ℕ → ℕ → Bool
bit_in xs q = bit_at xs (q / 64) (q % 64)

-- the row with its bits at qubit q turned where a and b hold, and its sign where s does
abbrev pub turned_by : ℕ → Bool → Bool → Bool → Row → Row
turned_by q a b s x = record { ps = set x.ps q (turned_pauli (get_or x.ps q I) a b); p = (x.p + cond s 2 0) % 4 }

-- controlled-X, where cx and cz are the bits at the control and tx and tz those at the target
abbrev pub turned_both : ℕ → ℕ → Bool → Bool → Bool → Bool → Row → Row
turned_both c t cx cz tx tz x = turned_by c false tz (cx && (tz && not (differ tx cz))) (turned_by t cx false false x)
