-- RULES 4, "Products and actions", and 9, "Refusals", call by call over a row set: the tests that a call makes, what it answers, and what stands
-- in each lent buffer when it returns. M is a set in memory and n its number of qubits; a refusal leaves every buffer as it was. Assumes nothing.
use Rattle.std.specs.Prelude.{◌≡◌, Bool, not, ◌||◌, List, [], ◌∷◌, ℕ, ◌*◌, eqb, length, get_or, Result}
use Rattle.pauli.specs.Pauli.{Pauli}
use Rattle.pauli.specs.declared.PauliMatrix.TheVariants.{I}
use Rattle.pauli.specs.Row.{Row, mul_row}
use Rattle.pauli.specs.Rows.{phase_of, clashes_of, commute, central, count_of, with_qubit, act_on, act_phase_on}
use Rattle.encoding.specs.Limits.{words_of}
use Rattle.encoding.specs.Words.{lay_rows}
use Rattle.encoding.specs.Set.{Mem, count, rows_of, list, lay, state_of, lay_state}
use Rattle.encoding.specs.Refusals.{many_rows, set_lines, out_lines, state_lines, too_large, read_lines, row_lines, rows_lines, answer_or, done_or, left_or}
use Rattle.encoding.specs.Ranks.{TableLine, line, by_rank, joined}
use Rattle.encoding.specs.declared.Refusal.{Refusal}
use Rattle.pauli.specs.declared.ComplexSign.{ComplexSign}

-- ---- what a call answers that gives a power of i: the refusal, or the exponent where none fits

abbrev pub phase_or : ℕ → ℕ → Result ComplexSign Refusal
phase_or k e = answer_or k (record { 0 = e })

-- ---- calls that read one set: the set is tested whole, then the numbers

-- one row, two rows, a qubit of a row
abbrev pub row_fault : ℕ → Mem → ℕ → ℕ
row_fault n M r = by_rank (row_lines n M r)

abbrev pub rows_fault : ℕ → Mem → ℕ → ℕ → ℕ
rows_fault n M a b = by_rank (rows_lines n M a b)

abbrev pub qubit_fault : ℕ → Mem → ℕ → ℕ → ℕ
qubit_fault n M r q = by_rank (read_lines n M (too_large (count M) r || too_large n q))

-- get_qubit: the Pauli at qubit q of row r
unfoldable pub get_qubit : ℕ → Mem → ℕ → ℕ → Result Pauli Refusal
get_qubit n M r q = answer_or (qubit_fault n M r q) (get_or (rows_of n M r).ps q I)

-- count: how many qubits of row r hold a Pauli
unfoldable pub count_in : ℕ → Mem → ℕ → Pauli → Result ℕ Refusal
count_in n M r p = answer_or (row_fault n M r) (count_of n p (rows_of n M r))

-- phase_of_mul: the exponent of the product of rows a and b, without the rows' own
unfoldable pub phase_of_mul : ℕ → Mem → ℕ → ℕ → Result ComplexSign Refusal
phase_of_mul n M a b = phase_or (rows_fault n M a b) (phase_of n (rows_of n M a) (rows_of n M b))

-- commutes_with: whether rows a and b commute
unfoldable pub commutes_with : ℕ → Mem → ℕ → ℕ → Result Bool Refusal
commutes_with n M a b = answer_or (rows_fault n M a b) (commute n (rows_of n M a) (rows_of n M b))

-- belongs_to_centralizer: whether row r commutes with every row
unfoldable pub belongs_to_centralizer : ℕ → Mem → ℕ → Result Bool Refusal
belongs_to_centralizer n M r = answer_or (row_fault n M r) (central n (count M) (rows_of n M) r)

-- ---- set_qubit: qubit q of row r becomes p

pub record SetQubit (n : ℕ) (M : Mem) (r q : ℕ) (p : Pauli) (M' : Mem) (a : Result Unit Refusal) : Type 0 where
  pub answer : a ≡ done_or (qubit_fault n M r q)
  pub rows : M' ≡ left_or (qubit_fault n M r q) M (lay n (count M) (with_qubit (rows_of n M) r q p))

-- ---- compatibility_matrix: m rows of (m/64 rounded up) words, bit j of row i for rows i and j, spare bits zero

-- 2: m above its limit; 3: the lent words are not as many as the matrix has
abbrev pub matrix_lines : ℕ → ℕ → List TableLine
matrix_lines m size = line 2 (many_rows m) ∷ line 3 (not (eqb size (m * words_of m))) ∷ []

abbrev pub matrix_fault : ℕ → Mem → ℕ → ℕ
matrix_fault n M size = by_rank (joined (set_lines n M) (matrix_lines (count M) size))

-- an m by m matrix of bits, laid in words
abbrev pub laid_matrix : ℕ → (ℕ → ℕ → Bool) → List ℕ
laid_matrix m bits = lay_rows (λ (b : Bool). b) (words_of m) (list m (λ i. list m (λ j. bits i j)))

-- bit j of row i: whether rows i and j commute
abbrev pub commuting : ℕ → Mem → ℕ → ℕ → Bool
commuting n M i j = commute n (rows_of n M i) (rows_of n M j)

pub record CompatibilityMatrix (n : ℕ) (M : Mem) (out out' : List ℕ) (a : Result Unit Refusal) : Type 0 where
  pub answer : a ≡ done_or (matrix_fault n M (length out))
  pub matrix : out' ≡ left_or (matrix_fault n M (length out)) out (laid_matrix (count M) (commuting n M))

-- ---- cmpnts_mul_pairwise: row i of the third set is left i times right i, by the product that rows of one set have, and number i that of the clashes

-- 3: the lent numbers are q, not m
abbrev pub clash_lines : ℕ → ℕ → List TableLine
clash_lines m q = line 3 (not (eqb q m)) ∷ []

abbrev pub pairwise_fault : ℕ → Mem → Mem → Mem → ℕ → ℕ
pairwise_fault n L R O q = by_rank (joined (joined (set_lines n L) (set_lines n R)) (joined (clash_lines (count L) q) (out_lines n O)))

abbrev pub pair_rows : ℕ → Mem → Mem → ℕ → Row
pair_rows n L R k = mul_row n (rows_of n L k) (rows_of n R k)

abbrev pub pair_numbers : ℕ → Mem → Mem → List ℕ
pair_numbers n L R = list (count L) (λ k. clashes_of n (rows_of n L k) (rows_of n R k))

pub record MulPairwise (n : ℕ) (L R O O' : Mem) (cs cs' : List ℕ) (a : Result Unit Refusal) : Type 0 where
  -- both have the m of the call
  pub one-m : count R ≡ count L
  pub answer : a ≡ done_or (pairwise_fault n L R O (length cs))
  pub rows : O' ≡ left_or (pairwise_fault n L R O (length cs)) O (lay n (count L) (pair_rows n L R))
  pub numbers : cs' ≡ left_or (pairwise_fault n L R O (length cs)) cs (pair_numbers n L R)

-- ---- imul_state: row r acts on a lent basis state of w words

-- the state's length (3) and its bits at n and above (4) are tested with the set and the row number
abbrev pub action_fault : ℕ → Mem → ℕ → List ℕ → ℕ
action_fault n M r st = by_rank (joined (row_lines n M r) (state_lines n st))

pub record ImulState (n : ℕ) (M : Mem) (r : ℕ) (st st' : List ℕ) (a : Result ComplexSign Refusal) : Type 0 where
  pub answer : a ≡ phase_or (action_fault n M r st) (act_phase_on n (rows_of n M r) (state_of n st))
  pub state : st' ≡ left_or (action_fault n M r st) st (lay_state n (act_on n (rows_of n M r) (state_of n st)))
