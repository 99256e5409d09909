-- RULES 3, "How a row set lies in memory": qubit q is bit q mod 64 of word q div 64, its X part in one run of words and its Z part in another.
-- Reading Paulis and basis states out of words, and laying them back. Assumes nothing.
use Rattle.std.specs.Prelude.{Bool, true, false, List, [], ◌∷◌, ◌++◌, ℕ, zero, suc, ◌+◌, ◌*◌, ◌/◌, ◌%◌, ◌^◌, eqb, get_or, take, drop}
use Rattle.pauli.specs.Pauli.{Pauli, of_bits}

abbrev pub odd : ℕ → Bool
odd x = eqb (x % 2) 1

abbrev pub bit : Bool → ℕ
bit false = 0
bit true = 1

-- bit k of word j
unfoldable pub bit_at : List ℕ → ℕ → ℕ → Bool
bit_at xs j k = odd (get_or xs j 0 / 2 ^ k)

-- the word v with its bit k made b
unfoldable pub with_bit : ℕ → ℕ → Bool → ℕ
with_bit v zero b = v / 2 * 2 + bit b
with_bit v (suc k) b = with_bit (v / 2) k b * 2 + bit (odd v)

-- the d qubits of a pair of words, lowest bit first
unfoldable pub word : ℕ → ℕ → ℕ → List Pauli
word zero x z = []
word (suc d) x z = of_bits (odd x) (odd z) ∷ word d (x / 2) (z / 2)

-- the d bits of a word, a basis state
unfoldable pub bits : ℕ → ℕ → List Bool
bits zero r = []
bits (suc d) r = odd r ∷ bits d (r / 2)

-- the qubits of a run of pairs of words
unfoldable pub unpack : List ℕ → List ℕ → List Pauli
unpack [] zs = []
unpack (x ∷ xs) [] = []
unpack (x ∷ xs) (z ∷ zs) = word 64 x z ++ unpack xs zs

-- the bits of a run of words, a basis state
unfoldable pub unbits : List ℕ → List Bool
unbits [] = []
unbits (r ∷ rs) = bits 64 r ++ unbits rs

-- the first n qubits of a run of words: a row's Paulis
abbrev pub qubits : ℕ → List ℕ → List ℕ → List Pauli
qubits n xs zs = take n (unpack xs zs)

-- the other way: a bit of each element, as one word and as w words; bits past the list's end are zero
module _ {A : Type 0} where
  unfoldable pub join : (A → Bool) → List A → ℕ
  join f [] = 0
  join f (p ∷ ps) = join f ps * 2 + bit (f p)

  unfoldable pub pack : (A → Bool) → ℕ → List A → List ℕ
  pack f zero ps = []
  pack f (suc w) ps = join f (take 64 ps) ∷ pack f w (drop 64 ps)

  -- lists laid one after the other, w words to a list
  unfoldable pub lay_rows : (A → Bool) → ℕ → List (List A) → List ℕ
  lay_rows f w [] = []
  lay_rows f w (ps ∷ rs) = pack f w ps ++ lay_rows f w rs
