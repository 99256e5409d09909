-- What the private functions leave: one stage of turning, and tables that are begun. Assumes nothing.
use Rattle.std.specs.Prelude.{◌≡◌, cond, List, ℕ, ◌+◌, ◌-◌, ◌*◌, ◌/◌, ◌^◌, ◌<◌, length, get_or}
use Rattle.std.specs.Int.Bits.{bit_xor}
use Rattle.tables.specs.Tables.{word_bit, dot, Turned, Tabled}

-- ---- turning 64 words of 64 bits, in six stages

-- low and high word of a pair (u, v): the bits of u and v whose place has bit s clear, and those whose place has it set
pub record Low (s u v r : ℕ) : Type 0 where
  pub at : (c : ℕ) → c < 64 → word_bit r c ≡ cond (word_bit c s) (word_bit v (c - 2 ^ s)) (word_bit u c)

pub record High (s u v r : ℕ) : Type 0 where
  pub at : (c : ℕ) → c < 64 → word_bit r c ≡ cond (word_bit c s) (word_bit v c) (word_bit u (c + 2 ^ s))

-- of the first n pairs, rows p and p + 32 have become rows 2p and 2p + 1
pub record Staged (n s : ℕ) (a b : List ℕ) : Type 0 where
  pub long : length b ≡ 64
  pub low : (p : ℕ) → p < n → Low s (get_or a p 0) (get_or a (p + 32) 0) (get_or b (2 * p) 0)
  pub high : (p : ℕ) → p < n → High s (get_or a p 0) (get_or a (p + 32) 0) (get_or b (2 * p + 1) 0)

-- ---- the tables

-- n of the o entries from base on, each with v, stand behind them
pub record Doubled (n base o v : ℕ) (t t' : List ℕ) : Type 0 where
  pub long : length t' ≡ length t
  pub new : (b : ℕ) → b < n → get_or t' (base + o + b) 0 ≡ bit_xor (get_or t (base + b) 0) v
  pub below : (p : ℕ) → p < base + o → get_or t' p 0 ≡ get_or t p 0

-- the tables of the first q turned words
pub record Begun (q : ℕ) (c t : List ℕ) : Type 0 where
  pub long : length t ≡ 2048
  pub of : (s : List ℕ) → Turned s c → (g b j : ℕ) → g < 8 → 8 * g < q → b < 256 → b < 2 ^ (q - 8 * g) → j < 64
      → word_bit (get_or t (g * 256 + b) 0) j ≡ dot 8 b (get_or s j 0 / 2 ^ (8 * g))

-- all of them
pub record Made (c t : List ℕ) : Type 0 where
  pub long : length t ≡ 2048
  pub of : (s : List ℕ) → Turned s c → Tabled s t

-- the parities of v with the source words
pub record Found (t : List ℕ) (v r : ℕ) : Type 0 where
  pub at : (s : List ℕ) → Tabled s t → (j : ℕ) → j < 64 → word_bit r j ≡ dot 64 v (get_or s j 0)

-- 64 words are turned
pub record Block (a b : List ℕ) : Type 0 where
  pub long : length b ≡ 64
  pub turned : Turned a b
