-- What the inner functions of this crate ask and leave: the leaves that reducer and checker share, which take any input (of a row set proofs/RowView.antt says
-- that they are `bit_row`, `first` and `mul_at`), and the run that the reducer's workers stand for. The calls' contracts do not speak of it. Assumes nothing.
use Rattle.std.specs.Prelude.{ℕ, ◌+◌, ◌≤◌, ◌<◌, ◌-◌, ◌*◌, ◌/◌, ◌%◌, ◌≡◌, false, Bool, cond, ◌&&◌, List, ◌++◌, length, take, drop, eqb, leb, ltb, Result, Ok, Err, ⊤}
use Rattle.encoding.specs.Set.{Mem, count, Sound, row, mem_of, exponent_at, with_exponent}
pub use Rattle.reduction.specs.Workers.{Below}
use Rattle.late.specs.declared.Progress.{Progress}
pub use Rattle.late.specs.Workers.{Come, come, going_on, Keeps, result_of, start, Does, ListsIn, Blank}
unfoldable pub use Rattle.late.specs.Workers.{run_of, outcome}
use Rattle.pauli.specs.Pauli.{has_x, has_z, mul, phases, clashes}
use Rattle.encoding.specs.Limits.{max_qubits, max_rows, max_words, words_of}
use Rattle.encoding.specs.Words.{bit_at, unpack, pack}
use Rattle.encoding.specs.Refusals.{out_lines}
use Rattle.encoding.specs.Ranks.{by_rank}
use Rattle.products.specs.Leaves.{Multiplied}
pub use Rattle.late.specs.Workers.{place_from}
unfoldable pub use Rattle.reduction.specs.Workers.{first_place}
use Rattle.products.specs.declared.Factor.{Factor}

-- ---- a column of a row, the first place with it set, a row multiplied by another

-- column c of a row's two parts: X of qubit c, from n on Z of qubit c - n
abbrev pub column_of : ℕ → List ℕ → List ℕ → ℕ → Bool
column_of n xs zs c = cond (ltb c n) (bit_at xs (c / 64) (c % 64)) (bit_at zs ((c - n) / 64) ((c - n) % 64))

-- column c of row k; past the limits no bit is set
unfoldable pub bit_in : ℕ → List ℕ → List ℕ → ℕ → ℕ → Bool
bit_in n xs zs k c = (leb n max_qubits && ltb k max_rows) && column_of n (row (words_of n) k xs) (row (words_of n) k zs) c

-- what refusals 1 to 3 ask of a set, and both rows are in it
abbrev pub both_in : ℕ → Mem → ℕ → ℕ → Bool
both_in n M a b = eqb (by_rank (out_lines n M)) 0 && (ltb a (count M) && ltb b (count M))

-- the words with others in the place of row r
abbrev pub put_row : ℕ → ℕ → List ℕ → List ℕ → List ℕ
put_row w r v xs = take (r * w) xs ++ (v ++ drop w (drop (r * w) xs))

-- Row a multiplied by row b: its words are those of the product, its exponent p_a + p_b + phase(a,b) mod 4. Where not both are in, nothing is done.
unfoldable pub mul_in : ℕ → ℕ → ℕ → Mem → Mem
mul_in n a b M =
    let w = words_of n in
    let A = unpack (row w a M.xs) (row w a M.zs) in
    let B = unpack (row w b M.xs) (row w b M.zs) in
    cond (both_in n M a b)
    (mem_of (count M) (put_row w a (pack has_x w (mul A B)) M.xs) (put_row w a (pack has_z w (mul A B)) M.zs)
    (with_exponent M.es a ((exponent_at M.es a + exponent_at M.es b + phases A B) % 4)))
    M

-- the number of qubits at which rows a and b hold differing non-identity Paulis, mod 2^16; 0 where not both are in
unfoldable pub clashes_in : ℕ → ℕ → ℕ → Mem → ℕ
clashes_in n a b M =
    let w = words_of n in
    cond (both_in n M a b) (clashes (unpack (row w a M.xs) (row w a M.zs)) (unpack (row w b M.xs) (row w b M.zs)) % 65536) 0

-- ---- the worker behind both

-- m rows of w words, within the limits, and both rows in it
pub record InRows (w a b : ℕ) (M : Mem) : Type 0 where
  pub few : count M ≤ max_rows
  pub narrow : w ≤ max_words
  pub x-long : length M.xs ≡ count M * w
  pub z-long : length M.zs ≡ count M * w
  pub a_in : a < count M
  pub b-in : b < count M

pub record RowsMultiplied (w a b : ℕ) (M M' : Mem) (c : ℕ) : Type 0 where
  pub factor : Factor
  pub words : Multiplied w (a * w) (b * w) M.xs M.zs M'.xs M'.zs factor
  pub many : count M' ≡ count M
  pub exponents : M'.es ≡ with_exponent M.es a ((exponent_at M.es a + exponent_at M.es b + factor.phase.0) % 4)
  pub number : c ≡ factor.clashes

-- ---- the reducer: the row set in memory, the entries in the log, the run they stand for

-- where the run goes on, its pivots are among the first m listed rows
abbrev pub Among : ℕ → Result Progress Progress → Type 0
Among m (Ok s) = s.t ≤ m
Among m (Err s) = ⊤

-- what every worker asks: a row set, room for the entries that are there, a run that goes on
pub record Ready (n : ℕ) (M : Mem) (log : List ℕ) (s : Come) : Type 0 where
  pub sound : Sound n M
  pub room : s.entries + s.entries ≤ length log
  pub going : s.full ≡ false
