-- What the private functions ask and leave: a set that passed its tests, where a row lies in it, what the masks count, and how far the loops over
-- pairs of rows and over the rows of a product have come. Assumes nothing.
use Rattle.std.specs.Prelude.{◌≡◌, cond, List, ℕ, ◌+◌, ◌-◌, ◌*◌, ◌^◌, ◌≤◌, ◌<◌, ltb, length, get_or}
use Rattle.pauli.specs.Pauli.{Pauli, has_x, has_z}
use Rattle.pauli.specs.declared.PauliMatrix.TheVariants.{I, X, Y, Z}
use Rattle.pauli.specs.Row.{Row}
use Rattle.pauli.specs.Rows.{clashes_of, holding, act_on, act_phase_on}
use Rattle.encoding.specs.Limits.{words_of}
use Rattle.encoding.specs.Words.{pack}
use Rattle.encoding.specs.Set.{row, Mem, count, phase_units, exponent_in, in_rows, rows_of, Sound, state_of, lay_state}
use Rattle.cmpnt_list.specs.Calls.{pair_rows}

-- a row set within the limits whose matrix is lent in size words
pub record AskedMatrix (n : ℕ) (M : Mem) (size : ℕ) : Type 0 where
  pub ready : Sound n M
  pub fits : size ≡ count M * words_of (count M)

-- the same of the three sets of a pairwise product, and q lent numbers
pub record BothReady (n : ℕ) (L R : Mem) : Type 0 where
  pub left : Sound n L
  pub right : Sound n R

pub record ThirdReady (n q : ℕ) (O : Mem) : Type 0 where
  pub numbers : q ≡ count O
  pub x-long : length O.xs ≡ count O * words_of n
  pub z-long : length O.zs ≡ count O * words_of n
  pub e-long : length O.es ≡ phase_units (count O)

-- of a pairwise product r rows are written, with their numbers of clashes
pub record Written (n : ℕ) (L R : Mem) (r : ℕ) (xs zs cs : List ℕ) : Type 0 where
  pub x-long : length xs ≡ count L * words_of n
  pub z-long : length zs ≡ count L * words_of n
  pub c-long : length cs ≡ count L
  pub x-row : (k : ℕ) → k < r → row (words_of n) k xs ≡ pack has_x (words_of n) (pair_rows n L R k).ps
  pub z-row : (k : ℕ) → k < r → row (words_of n) k zs ≡ pack has_z (words_of n) (pair_rows n L R k).ps
  pub number : (k : ℕ) → k < r → get_or cs k 0 ≡ clashes_of n (rows_of n L k) (rows_of n R k)

-- the rows of phase word j end here, of m
abbrev pub word_end : ℕ → ℕ → ℕ
word_end m j = cond (ltb (m - j * 32) 32) m (j * 32 + 32)

-- the rows of the words before word j, of m
abbrev pub rows_before : ℕ → ℕ → ℕ
rows_before m j = cond (ltb m (j * 32)) m (j * 32)

-- word j of the product's phases, of which those below r are in it
pub record PhasesOf (n : ℕ) (L R : Mem) (j r v : ℕ) : Type 0 where
  pub fits : v < 2 ^ 64
  pub each : (k : ℕ) → k < 32 → exponent_in v k ≡ in_rows r (λ i. (pair_rows n L R i).p) (j * 32 + k)

-- row r of m rows of w words is the part from a to e
pub record RowAt (r w m a e : ℕ) : Type 0 where
  pub from : a ≡ r * w
  pub to : e ≡ r * w + w
  pub inside : e ≤ m * w

-- ---- counts: what the masks count, for I the qubits that hold another, and the number from it

unfoldable pub masked : Pauli → List Pauli → ℕ
masked I ps = holding X ps + holding Y ps + holding Z ps
masked X ps = holding X ps
masked Y ps = holding Y ps
masked Z ps = holding Z ps

abbrev pub from_masks : Pauli → ℕ → ℕ → ℕ
from_masks I n k = n - k
from_masks X n k = k
from_masks Y n k = k
from_masks Z n k = k

-- ---- a row on a basis state: the state's words, and the exponent

pub record StateActed (n : ℕ) (r : Row) (st st' : List ℕ) (e : ℕ) : Type 0 where
  pub state : st' ≡ lay_state n (act_on n r (state_of n st))
  pub exponent : e ≡ act_phase_on n r (state_of n st)
