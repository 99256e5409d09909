-- What the inner functions of this crate ask and leave: one pass over the terms, where the block lies, how large whole-number sums are, and the running sum
-- over pairs. Assumes nothing.
use Rattle.std.specs.Prelude.{◌≡◌, ℕ, suc, ◌*◌, ◌^◌, ◌<◌, ◌≤◌, Bool, true, false, cond, Option, Result, ok_or, ◌||◌, List, [], ◌∷◌, length, ℤ, bit_xor, nat_le, nat_lt, slice_index, unsigned_abs}
use Rattle.pauli.specs.Gauss.{Gauss, g0}
use Rattle.encoding.specs.Refusals.{some, answer_or}
use Rattle.encoding.specs.Ranks.{TableLine, line, by_rank}
use Rattle.mat_elem.specs.Terms.{max_terms, bad_count, too_many, unlike_lengths, set_from, high_bits, falls, term_lines}
use Rattle.checked.specs.Workers.{answer, checked_pair, plus_checked}
use Rattle.mat_elem.specs.states.Sums.{Total, Terms, State, coefficient_at, max_vectors, element_at, through}
use Rattle.mat_elem.specs.declared.Place.{Place}
use Rattle.encoding.specs.declared.Refusal.{Refusal}
use Rattle.checked.specs.declared.Complex.{Complex}

-- ---- the table in two parts: what the lengths tell, and what the words tell

abbrev pub shape_lines : ℕ → ℕ → ℕ → ℕ → ℕ → Bool → Bool → List TableLine
shape_lines n m z reals imags many unequal = line 1 (bad_count n) ∷ line 2 (many || too_many m) ∷ line 3 (unequal || unlike_lengths m z reals imags) ∷ []

abbrev pub word_lines : ℕ → List ℕ → List ℕ → Bool → List TableLine
word_lines n xs zs beside = line 4 (high_bits n xs zs beside) ∷ line 10 (falls xs) ∷ []

-- ---- one pass over the terms: the bits set in some word, and falls
pub record Looked (xs zs : List ℕ) (all : ℕ) (fell : Bool) : Type 0 where
  pub is-above : (n : ℕ) → set_from n all ≡ (some (set_from n) xs || some (set_from n) zs)
  pub is-fell : fell ≡ falls xs

-- ---- where the block of t lies

-- how many words pass the test
unfoldable pub how_many : (ℕ → Bool) → List ℕ → ℕ
how_many p [] = 0
how_many p (w ∷ ws) = let k = how_many p ws in cond (p w) (suc k) k

-- where X never falls the block starts after the words below t, and ends before those above t
abbrev pub block_from : List ℕ → ℕ → ℕ
block_from xs t = how_many (λ w. nat_lt w t) xs

abbrev pub block_to : List ℕ → ℕ → ℕ
block_to xs t = how_many (λ w. nat_le w t) xs

abbrev pub place_of : List ℕ → ℕ → Place
place_of xs t = record { first = block_from xs t; last = block_to xs t }

-- the words from `first` up to, not including, `last` are t, and no others are
pub record BlockOf (xs : List ℕ) (t first last : ℕ) : Type 0 where
  pub ordered : first ≤ last
  pub within : last ≤ length xs
  pub before : (k : ℕ) → k < first → slice_index xs k < t
  pub inside : (k : ℕ) → first ≤ k → k < last → slice_index xs k ≡ t
  pub after : (k : ℕ) → last ≤ k → k < length xs → t < slice_index xs k

-- a part of the terms, from `first` up to, not including, `last`, within the X and Z words and the real and imaginary parts, of which these are the lengths
pub record PartOf (first last x z reals imags : ℕ) : Type 0 where
  pub ordered : first ≤ last
  pub in-x : last ≤ x
  pub in-z : last ≤ z
  pub in-re : last ≤ reals
  pub in-im : last ≤ imags
  pub few : last ≤ max_terms

-- the number of the table, and, where it is 0, the block from its first place up to, not including, its last; empty where no term has that X
unfoldable pub found_of : ℕ → List ℕ → List ℕ → ℕ → ℕ → ℕ → ℕ → Result Place Refusal
found_of n xs zs reals imags bra ket = answer_or (by_rank (term_lines n xs zs reals imags bra ket)) (place_of xs (bit_xor bra ket))

-- ---- whole numbers: i32 parts, i64 sums and 65,536 terms (RULES 8.1, 8.7), so that no sum leaves its 64 bits

-- of a part of a coefficient, and of a sum
abbrev pub part_max : ℕ
part_max = 2 ^ 31

abbrev pub sum_max : ℕ
sum_max = max_terms * part_max

-- both parts are at most m in size
pub record Within (m : ℕ) (c : Complex ℤ) : Type 0 where
  pub re-le : unsigned_abs c.re ≤ m
  pub im-le : unsigned_abs c.im ≤ m

-- a is at most as large as so many parts of a coefficient
abbrev pub reaches : ℕ → ℤ → Type 0
reaches n a = unsigned_abs a ≤ n * part_max

-- terms among which a block can be searched and summed, by their X words and the numbers of the rest
pub record Ready (xs : List ℕ) (z reals imags : ℕ) : Type 0 where
  pub rising : falls xs ≡ false
  pub few : length xs ≤ max_terms
  pub z-long : z ≡ length xs
  pub re-long : reals ≡ length xs
  pub im-long : imags ≡ length xs

-- ---- states: the running sum over pairs, as the checked operations have it

-- a list within the limit whose parts are as many as its words
pub record Parted (m reals imags : ℕ) : Type 0 where
  pub few : m ≤ max_vectors
  pub re-long : reals ≡ m
  pub im-long : imags ≡ m

abbrev pub ket_step : Terms → State → ℕ → Gauss → Option (Complex ℤ) → ℕ → Option (Complex ℤ)
ket_step A ket w b s j = plus_checked s (checked_pair b (coefficient_at ket j) (element_at A w (slice_index ket.words j)))

abbrev pub over_kets : Terms → State → ℕ → Gauss → Option (Complex ℤ) → Option (Complex ℤ)
over_kets A ket w b s = through (ket_step A ket w b) s (length ket.words)

abbrev pub bra_step : Terms → State → State → Option (Complex ℤ) → ℕ → Option (Complex ℤ)
bra_step A bra ket s i = over_kets A ket (slice_index bra.words i) (coefficient_at bra i) s

abbrev pub over_bras : Terms → State → State → Option (Complex ℤ)
over_bras A bra ket = through (bra_step A bra ket) (answer true g0) (length bra.words)

abbrev pub total_or : Option (Complex ℤ) → Total
total_or s = ok_or s (record { 0 = 16 })
