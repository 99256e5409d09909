-- RULES 3, "How a row set lies in memory": n qubits, w words to a row, m rows; row r is the part of the words from r × w up to, not including,
-- (r+1) × w, and two bits of the phase words. Reading a set out of its words, and laying it back. Assumes nothing.
use Rattle.std.specs.Prelude.{◌≡◌, Bool, cond, ◌&&◌, List, [], ◌∷◌, ℕ, zero, suc, ◌+◌, ◌-◌, ◌*◌, ◌/◌, ◌%◌, ◌^◌, ◌≤◌, ◌<◌, eqb, ltb, length, get_or, take, drop, set}
use Rattle.pauli.specs.Pauli.{Pauli, has_x, has_z}
use Rattle.pauli.specs.Row.{Row}
use Rattle.encoding.specs.Limits.{max_qubits, max_rows, words_of}
use Rattle.encoding.specs.declared.RowSet.{RowSet}
use Rattle.encoding.specs.Words.{unbits, qubits, with_bit, pack, lay_rows}

-- the words from a up to, not including, e
abbrev pub part : ℕ → ℕ → List ℕ → List ℕ
part a e xs = take (e - a) (drop a xs)

-- row r of words that lie w to a row
abbrev pub row : ℕ → ℕ → List ℕ → List ℕ
row w r xs = part (r * w) (r * w + w) xs

-- m rows: the X words, the Z words, the phase words
pub record Mem : Type 0 where
  pub m : ℕ
  pub xs : List ℕ
  pub zs : List ℕ
  pub es : List ℕ

abbrev pub mem_of : ℕ → List ℕ → List ℕ → List ℕ → Mem
mem_of m xs zs es = record { m = m; xs = xs; zs = zs; es = es }

-- a set that is lent to be read
abbrev pub set_of : RowSet → Mem
set_of s = mem_of s.m s.x.now s.z.now s.phases.now

-- the number of rows
abbrev pub count : Mem → ℕ
count M = M.m

-- f 0, f 1, and so on, m of them
unfoldable pub list : {A : Type 0} → ℕ → (ℕ → A) → List A
list zero f = []
list (suc m) f = f 0 ∷ list m (λ k. f (suc k))

-- ---- exponents, two bits each, 32 to a word: that of row r is in bits 2(r mod 32) and up of word r div 32. Spare bits are zero.

-- how many words m of them take: m/32 rounded up
abbrev pub phase_units : ℕ → ℕ
phase_units m = (m + 31) / 32

-- number k of a word
abbrev pub exponent_in : ℕ → ℕ → ℕ
exponent_in v k = v / 2 ^ (2 * k) % 4

-- a word of d of them
unfoldable pub word_in : ℕ → (ℕ → ℕ) → ℕ
word_in zero f = 0
word_in (suc d) f = word_in d (λ k. f (suc k)) * 4 + f 0 % 4

-- a word with number k made e, the others as they were
unfoldable pub with_in : ℕ → ℕ → ℕ → ℕ
with_in v k e = word_in 32 (λ j. cond (eqb j k) e (exponent_in v j))

-- the exponent of row r
unfoldable pub exponent_at : List ℕ → ℕ → ℕ
exponent_at es r = exponent_in (get_or es (r / 32) 0) (r % 32)

-- m exponents laid; there are none past the last
abbrev pub in_rows : ℕ → (ℕ → ℕ) → ℕ → ℕ
in_rows m f r = cond (ltb r m) (f r) 0

unfoldable pub lay_exponents : ℕ → (ℕ → ℕ) → List ℕ
lay_exponents m f = list (phase_units m) (λ j. word_in 32 (λ k. in_rows m f (j * 32 + k)))

-- the exponent of row r has become v
unfoldable pub with_exponent : List ℕ → ℕ → ℕ → List ℕ
with_exponent es r v = set es (r / 32) (with_in (get_or es (r / 32) 0) (r % 32) v)

-- ---- rows

-- reading: the row at each number, of rows that lie w words to a row; past the last row it is the identity
unfoldable pub rows_held : ℕ → ℕ → Mem → ℕ → Row
rows_held n w M k = record { ps = qubits n (row w k M.xs) (row w k M.zs); p = exponent_at M.es k }

abbrev pub rows_of : ℕ → Mem → ℕ → Row
rows_of n M = rows_held n (words_of n) M

-- laying back: m rows, w words to a row; bits at n and above are zero
unfoldable pub lay_in : ℕ → ℕ → (ℕ → Row) → Mem
lay_in w m σ = mem_of m (lay_rows has_x w (list m (λ k. (σ k).ps))) (lay_rows has_z w (list m (λ k. (σ k).ps))) (lay_exponents m (λ k. (σ k).p))

abbrev pub lay : ℕ → ℕ → (ℕ → Row) → Mem
lay n m σ = lay_in (words_of n) m σ

-- a basis state of n qubits that lies in words, and one laid in words
abbrev pub state_of : ℕ → List ℕ → List Bool
state_of n st = take n (unbits st)

abbrev pub lay_state : ℕ → List Bool → List ℕ
lay_state n s = pack (λ (b : Bool). b) (words_of n) s

-- qubit q of a row's two parts has become the Pauli p: its two bits are changed, where they lie within both parts
abbrev pub within : ℕ → List ℕ → List ℕ → Bool
within q xs zs = ltb (q / 64) (length xs) && ltb (q / 64) (length zs)

pub record QubitSet (q : ℕ) (p : Pauli) (xs zs xs' zs' : List ℕ) : Type 0 where
  pub x-words : xs' ≡ cond (within q xs zs) (set xs (q / 64) (with_bit (get_or xs (q / 64) 0) (q % 64) (has_x p))) xs
  pub z-words : zs' ≡ cond (within q xs zs) (set zs (q / 64) (with_bit (get_or zs (q / 64) 0) (q % 64) (has_z p))) zs

-- w words of X and of Z are what their first n qubits pack to: each word fits, and the bits at n and above are zero
pub record Packed (n w : ℕ) (xs zs : List ℕ) : Type 0 where
  pub x-is : xs ≡ pack has_x w (qubits n xs zs)
  pub z-is : zs ≡ pack has_z w (qubits n xs zs)

-- what refusals 1 to 5 leave: lengths fit, bits at n and above are zero, and so are the bits past the last exponent
pub record Valid (n w : ℕ) (M : Mem) : Type 0 where
  pub wide : n ≤ w * 64
  pub x-long : length M.xs ≡ count M * w
  pub z-long : length M.zs ≡ count M * w
  pub packed : (r : ℕ) → r < count M → Packed n w (row w r M.xs) (row w r M.zs)
  pub exponents : M.es ≡ lay_exponents M.m (exponent_at M.es)

-- the same within the limits
pub record Sound (n : ℕ) (M : Mem) : Type 0 where
  pub valid : Valid n (words_of n) M
  pub few-qubits : n ≤ max_qubits
  pub few-rows : count M ≤ max_rows

-- the bits of m rows alone, every exponent being 0: what workers over bits take
abbrev pub bare : ℕ → List ℕ → List ℕ → Mem
bare m xs zs = mem_of m xs zs (lay_exponents m (λ _. 0))
