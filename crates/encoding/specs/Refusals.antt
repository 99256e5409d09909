-- RULES 9, "Refusals": the lines of the table for row sets, states and numbers; those of orders, lists, logs and terms stand beside the calls that take
-- them. And what a refusal comes to. Assumes nothing.
use Rattle.std.specs.Prelude.{◌≡◌, Bool, false, cond, not, ◌||◌, List, [], ◌∷◌, ℕ, zero, suc, ◌*◌, ◌/◌, ◌%◌, ◌^◌, eqb, leb, ltb, length, get_or, drop, Result, Ok, Err}
unfoldable pub use Rattle.pauli.specs.Lists.{some, some_below}
use Rattle.pauli.specs.Pauli.{Pauli, has_x, has_z}
use Rattle.encoding.specs.Limits.{max_qubits, max_rows, words_of}
use Rattle.encoding.specs.Words.{unpack, unbits}
use Rattle.encoding.specs.Set.{row, Mem, count, phase_units, Sound}
use Rattle.encoding.specs.Ranks.{TableLine, line, joined}
use Rattle.encoding.specs.declared.Refusal.{Refusal}

-- the smaller of two numbers of the table
unfoldable pub least : ℕ → ℕ → ℕ
least zero b = b
least (suc a) zero = suc a
least (suc a) (suc b) = cond (ltb (suc a) (suc b)) (suc a) (suc b)

-- the same of two parts of a call, each refused or not
abbrev pub smaller : Result Unit Refusal → Result Unit Refusal → Result Unit Refusal
smaller (Ok a) b = b
smaller (Err l) (Ok b) = Err l
smaller (Err l) (Err r) = Err (cond (ltb l.0 r.0) l r)

-- ---- the tests of a row set

-- a qubit with a bit set
abbrev pub is_on : Pauli → Bool
is_on p = has_x p || has_z p

-- 1: n outside its range
abbrev pub many_qubits : ℕ → Bool
many_qubits n = ltb max_qubits n

-- 2: m above its limit
abbrev pub many_rows : ℕ → Bool
many_rows m = ltb max_rows m

-- 3: the X and the Z words have not exactly m × w words each, or the phase words are not as many as m exponents take
abbrev pub bad_lengths : ℕ → ℕ → ℕ → ℕ → ℕ → Bool
bad_lengths m w x z p = not (eqb x (m * w)) || (not (eqb z (m * w)) || not (eqb p (phase_units m)))

abbrev pub wrong_lengths : ℕ → Mem → Bool
wrong_lengths w M = bad_lengths (count M) w (length M.xs) (length M.zs) (length M.es)

-- 4: a bit set at n or above, in some row
unfoldable pub bad_bits : ℕ → ℕ → ℕ → List ℕ → List ℕ → Bool
bad_bits n m w xs zs = some_below m (λ r. some is_on (drop n (unpack (row w r xs) (row w r zs))))

-- 5: a bit set past the last exponent
unfoldable pub bad_phases : ℕ → List ℕ → Bool
bad_phases m es = not (eqb (get_or es (m / 32) 0 / 2 ^ (2 * (m % 32))) 0)

-- a set that is read: 1 to 5
abbrev pub set_lines : ℕ → Mem → List TableLine
set_lines n M =
    line 1 (many_qubits n)
    ∷ line 2 (many_rows (count M))
    ∷ line 3 (wrong_lengths (words_of n) M)
    ∷ line 4 (bad_bits n (count M) (words_of n) M.xs M.zs)
    ∷ line 5 (bad_phases (count M) M.es)
    ∷ []

-- a set that is written only: its old content is not tested
abbrev pub out_lines : ℕ → Mem → List TableLine
out_lines n M = line 1 (many_qubits n) ∷ line 2 (many_rows (count M)) ∷ line 3 (wrong_lengths (words_of n) M) ∷ []

-- ---- states and numbers

-- a lent basis state: w words (3), no bit set at n or above (4)
abbrev pub state_lines : ℕ → List ℕ → List TableLine
state_lines n st = line 1 (many_qubits n) ∷ line 3 (not (eqb (length st) (words_of n))) ∷ line 4 (some (λ (b : Bool). b) (drop n (unbits st))) ∷ []

-- 6: a number too large; its limit is the first number that is
abbrev pub too_large : ℕ → ℕ → Bool
too_large limit k = leb limit k

abbrev pub number_lines : Bool → List TableLine
number_lines large = line 6 large ∷ []

-- a set that is read and a number: 1 to 6
abbrev pub read_lines : ℕ → Mem → Bool → List TableLine
read_lines n M large = joined (set_lines n M) (number_lines large)

-- the numbers of one and of two of its rows
abbrev pub row_lines : ℕ → Mem → ℕ → List TableLine
row_lines n M r = read_lines n M (too_large (count M) r)

abbrev pub rows_lines : ℕ → Mem → ℕ → ℕ → List TableLine
rows_lines n M a b = read_lines n M (too_large (count M) a || too_large (count M) b)

-- what they leave: a row set within the limits, and no number that is too large
pub record Readable (n : ℕ) (M : Mem) (large : Bool) : Type 0 where
  pub ready : Sound n M
  pub small : large ≡ false

-- ---- what a refusal comes to

-- what a call answers: the refusal, or the value where none fits
unfoldable pub answer_or : {A : Type 0} → ℕ → A → Result A Refusal
answer_or zero v = Ok v
answer_or (suc k) v = Err (record { 0 = suc k })

-- the answer of a call that changes its buffers
abbrev pub done_or : ℕ → Result Unit Refusal
done_or f = answer_or f tt

-- a refusal leaves what was there
abbrev pub left_or : {A : Type 0} → ℕ → A → A → A
left_or zero old new = new
left_or (suc k) old new = old
