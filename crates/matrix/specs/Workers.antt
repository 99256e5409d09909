-- What the private functions ask and leave: 64 columns at a time, word i of the sums holding, for row i and the 64 rows from first on, whether they
-- commute so far; then the other half, a block of 64 rows and 64 columns being that across the diagonal, turned. Assumes nothing.
use Rattle.std.specs.Prelude.{◌≡◌, ◌⊎◌, List, ℕ, ◌+◌, ◌*◌, ◌≤◌, ◌<◌, ltb, length, get_or}
use Rattle.encoding.specs.Limits.{max_rows, max_words, words_of}
use Rattle.encoding.specs.Set.{list}
use Rattle.encoding.proofs.Odd.{xorᵇ}
use Rattle.tables.specs.Tables.{word_bit, dot, Tabled}
use Rattle.matrix.specs.Matrix.{agree}

-- m rows of w words, within the limits
pub record Sizes (w m : ℕ) (xs zs : List ℕ) : Type 0 where
  pub few_words : w ≤ max_words
  pub few-rows : m ≤ max_rows
  pub x-long : length xs ≡ m * w
  pub z-long : length zs ≡ m * w

-- no row has more words, be it the set's or the matrix's
abbrev pub wide : ℕ
wide = max_words + words_of max_rows

-- ---- what a loop wrote: value i at place i, for i from `from` up to `to`, and nothing else

pub record Placed (from to : ℕ) (place value : ℕ → ℕ) (old new : List ℕ) : Type 0 where
  pub long : length new ≡ length old
  pub here : (i : ℕ) → from ≤ i → i < to → get_or new (place i) 0 ≡ value i
  pub other : (p : ℕ) → ((i : ℕ) → from ≤ i → i < to → p ≡ place i → ⊥) → get_or new p 0 ≡ get_or old p 0

abbrev pub same : ℕ → ℕ
same i = i

abbrev pub always : ℕ → ℕ → ℕ
always v i = v

abbrev pub item : List ℕ → ℕ → ℕ
item s i = get_or s i 0

-- word k of row first + i, of rows of w words
abbrev pub place : ℕ → ℕ → ℕ → ℕ → ℕ
place w first k i = (first + i) * w + k

abbrev pub word_at : List ℕ → ℕ → ℕ → ℕ → ℕ → ℕ
word_at b w first k i = get_or b (place w first k i) 0

-- ---- the sums of 64 columns

-- word k of the 64 rows from first on; 0 past the last row
abbrev pub source : List ℕ → ℕ → ℕ → ℕ → List ℕ
source b w first k = list 64 (word_at b w first k)

-- the parities of word k of each row of a, from row first on, with the source words are added
pub record PartAdded (a s : List ℕ) (w m first k : ℕ) (old new : List ℕ) : Type 0 where
  pub at : (i j : ℕ) → first ≤ i → i < m → j < 64
      → word_bit (get_or new i 0) j ≡ xorᵇ (word_bit (get_or old i 0) j) (dot 64 (get_or a (i * w + k) 0) (get_or s j 0))

-- the same for whatever the tables are of
pub record TableAdded (t a : List ℕ) (w m first k : ℕ) (old new : List ℕ) : Type 0 where
  pub of : (s : List ℕ) → Tabled s t → PartAdded a s w m first k old new

-- the places of the 64 columns from first on that a matrix of m columns has
pub record Mask (m first v : ℕ) : Type 0 where
  pub at : (j : ℕ) → j < 64 → word_bit v j ≡ ltb (first + j) m

-- k words are summed, of the rows from first on
pub record Summed (w m first : ℕ) (xs zs : List ℕ) (k : ℕ) (sums : List ℕ) : Type 0 where
  pub at : (i j : ℕ) → first ≤ i → i < m → j < 64 → word_bit (get_or sums i 0) j ≡ agree m w xs zs k i (first + j)

-- ---- how much of the matrix is there

-- word e of row i is as it has to be wherever P i e
pub record RightWhere (w m v : ℕ) (xs zs : List ℕ) (P : ℕ → ℕ → Type 0) (out : List ℕ) : Type 0 where
  pub at : (i e j : ℕ) → i < m → e < v → j < 64 → P i e → word_bit (get_or out (i * v + e) 0) j ≡ agree m w xs zs w i (e * 64 + j)

-- the first n columns of words, from the diagonal down
abbrev pub Down : ℕ → ℕ → ℕ → Type 0
Down n i e = (e < n) × (e * 64 ≤ i)

-- all on or below the diagonal, the columns before b, and column b above block a
abbrev pub Known : ℕ → ℕ → ℕ → ℕ → Type 0
Known b a i e = (e * 64 ≤ i) ⊎ ((e < b) ⊎ ((e ≡ b) × (i < a * 64)))

-- whatever the rows: where there was P of their matrix there is Q
pub record Moved (m v : ℕ) (P Q : ℕ → ℕ → Type 0) (old new : List ℕ) : Type 0 where
  pub by : (w : ℕ) (xs zs : List ℕ) → Sizes w m xs zs → RightWhere w m v xs zs P old → RightWhere w m v xs zs Q new
