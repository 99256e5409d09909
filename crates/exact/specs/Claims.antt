-- Request 12, the claims: over the contracts of both calls and whatever these answer. The whole-number sum is the whole-number edition's definition,
-- `block_sum`, which takes whole numbers of any size. Assumes nothing.
use Rattle.std.specs.Prelude.{List, ◌≡◌, ℕ, ◌<◌, Float, ℤ, pos, length, get_or, Some, None, Ok, Err}
use Rattle.std.specs.Int.Bits.{bit_xor}
use Rattle.std.specs.Float.{nan}
use Rattle.std.specs.Int.{w32}
use Rattle.std.proofs.Common.{SFits}
use Rattle.mat_elem.specs.whole.Sums.{complex, block_sum}
use Rattle.checked.specs.declared.Complex.{Complex}
use Rattle.mat_elem.specs.Sums.{Element, Sum, NoBlock, Refused}
use Rattle.mat_elem.specs.float.Product.{MatElem}
use Rattle.exact.specs.Whole.{Reads, WholeBlock}

-- the answer, read as whole numbers, is the sum s: part by part; no block stands for 0; a refusal is no number
abbrev pub ReadsAs : Element Float → Complex ℤ → Type 0
ReadsAs (Ok (Some c)) s = Reads c.re s.re × Reads c.im s.im
ReadsAs (Ok None) s = s ≡ complex (pos 0) (pos 0)
ReadsAs (Err e) s = ⊥

-- whatever the float call answers where its block is whole and within `most` is the whole-number sum
abbrev pub ExactTo : ℕ → Type 0
ExactTo most =
    (n : ℕ) (xs zs : List ℕ) (fr fi : List Float) (re im : List ℤ) (bra ket : ℕ) (r : Element Float) → MatElem n xs zs fr fi bra ket r
    → WholeBlock most n xs zs fr fi re im bra ket → ReadsAs r (block_sum xs zs re im (bit_xor bra ket) ket)

-- the same parts for both editions: each float is the i32 at its place
pub record SameParts (fs : List Float) (is : List ℤ) : Type 0 where
  pub long : length is ≡ length fs
  pub reads : (k : ℕ) → k < length fs → Reads (get_or fs k nan) (get_or is k (pos 0))
  pub i32 : (k : ℕ) → k < length fs → SFits w32 (get_or is k (pos 0))

-- the same answer of both editions: the same whole numbers, no block, or the same refusal
pub data Same : Element Float → Element ℤ → Type 0 where
  sums : {a b : Float} {z w : ℤ} → Reads a z → Reads b w → Same (Sum a b) (Sum z w)
  none : Same NoBlock NoBlock
  refused : (k : ℕ) → Same (Refused k) (Refused k)
