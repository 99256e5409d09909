-- Request 12, the premise: floats that are whole numbers of any size, and how large those of a block may be together. Assumes nothing.
use Rattle.std.specs.Prelude.{Bool, true, false, List, [], ◌∷◌, ◌++◌, ◌≡◌, ℕ, ◌+◌, ◌^◌, ◌≤◌, ◌<◌, Float, ℤ, pos, neg_ℤ, nat_abs, length, get_or}
use Rattle.std.specs.Int.Bits.{bit_xor}
use Rattle.std.specs.Float.{nan}
use Rattle.std.specs.Float.Ieee.Exact.{HasValue}
use Rattle.encoding.specs.Ranks.{line, by_rank}
use Rattle.mat_elem.specs.Terms.{term_lines, in_block}
use Rattle.mat_elem.specs.Sums.{sum_over}
use Rattle.mat_elem.specs.float.Sums.{wild}

-- n with a sign
abbrev pub signed : Bool → ℕ → ℤ
signed false n = pos n
signed true n = neg_ℤ (pos n)

-- the float x is the whole number z: x is finite and has z's sign and size; both zeros are 0
pub data Reads : Float → ℤ → Type 0 where
  whole : {x : Float} (s : Bool) (n : ℕ) → HasValue x s n 1 → Reads x (signed s n)

-- the absolute values of both parts of term i
abbrev pub size_at : List ℤ → List ℤ → ℕ → ℕ
size_at re im i = nat_abs (get_or re i (pos 0)) + nat_abs (get_or im i (pos 0))

-- the absolute values of all parts of those of the first n terms that are in the block of t, added up
unfoldable pub size_to : List ℕ → List ℤ → List ℤ → ℕ → ℕ → ℕ
size_to xs re im t n = sum_over (in_block xs t) ◌+◌ 0 (size_at re im) n

-- 2 to the 53
abbrev pub exact_max : ℕ
exact_max = 2 ^ 53

-- 1 to 11 do not refuse the call; the parts in its block are the whole numbers re and im, of any size; their absolute values add up to `most` at most.
-- What re and im hold outside of the block does not matter
pub record WholeBlock (most n : ℕ) (xs zs : List ℕ) (fr fi : List Float) (re im : List ℤ) (bra ket : ℕ) : Type 0 where
  pub taken : by_rank (term_lines n xs zs (length fr) (length fi) bra ket ++ line 11 (wild fr fi) ∷ []) ≡ 0
  pub re-whole : (k : ℕ) → k < length xs → in_block xs (bit_xor bra ket) k ≡ true → Reads (get_or fr k nan) (get_or re k (pos 0))
  pub im-whole : (k : ℕ) → k < length xs → in_block xs (bit_xor bra ket) k ≡ true → Reads (get_or fi k nan) (get_or im k (pos 0))
  pub small : size_to xs re im (bit_xor bra ket) (length xs) ≤ most
