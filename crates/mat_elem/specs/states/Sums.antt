-- RULES 8.14 to 8.17, "States of many basis vectors", over whole numbers without bound: the lines of the table, the pairs in the order of the work with the
-- running sum and whether every number on the way is an i64, and what the call answers. Assumes nothing.
use Rattle.std.specs.Prelude.{ℕ, zero, suc, Bool, true, cond, not, ◌&&◌, ◌||◌, List, length, ℤ, ◌==◌, bit_xor, nat_lt, slice_index, Result, Ok}
use Rattle.pauli.specs.Gauss.{Gauss, ◌⊕◌, g0}
use Rattle.encoding.specs.Refusals.{some}
use Rattle.encoding.specs.Ranks.{TableLine, by_rank}
use Rattle.checked.specs.Range.{gauss, both_within, pair_fits, pair_of}
use Rattle.mat_elem.specs.Terms.{set_from, lines_to10}
use Rattle.mat_elem.specs.Operator.{coefficient}
use Rattle.mat_elem.specs.whole.Sums.{block_sum}
use Rattle.encoding.specs.declared.Refusal.{Refusal}
use Rattle.checked.specs.declared.Complex.{Complex}
use Rattle.mat_elem.specs.Sums.{Refused}
use Rattle.mat_elem.specs.declared.Terms as lent
use Rattle.mat_elem.specs.declared.states.Vectors as vectors

-- what the call answers: the sum, or a refusal
abbrev pub Total : Type 0
Total = Result (Complex ℤ) Refusal

abbrev pub Sum : ℤ → ℤ → Total
Sum a b = Ok (record { re = a; im = b })

-- the terms of an operator, and the basis vectors of a state, each with its coefficient
pub record Terms : Type 0 where
  pub xs : List ℕ
  pub zs : List ℕ
  pub re : List ℤ
  pub im : List ℤ

pub record State : Type 0 where
  pub words : List ℕ
  pub re : List ℤ
  pub im : List ℤ

abbrev pub terms : List ℕ → List ℕ → List ℤ → List ℤ → Terms
terms xs zs re im = record { xs = xs; zs = zs; re = re; im = im }

abbrev pub state : List ℕ → List ℤ → List ℤ → State
state ws re im = record { words = ws; re = re; im = im }

-- those of terms and of a state that are lent to be read
abbrev pub terms_of : lent.Terms ℤ → Terms
terms_of t = terms t.x.now t.z.now t.re.now t.im.now

abbrev pub vectors_of : vectors.Vectors → State
vectors_of s = state s.words.now s.re.now s.im.now

abbrev pub coefficient_at : State → ℕ → Gauss
coefficient_at s i = coefficient s.re s.im i

-- ---- the lines of the table

-- a list has at most 256 words
abbrev pub max_vectors : ℕ
max_vectors = 256

-- 2: a list above that
abbrev pub too_long : List ℕ → Bool
too_long ws = nat_lt max_vectors (length ws)

-- 3: real or imaginary parts not as many as the m words
abbrev pub bad_parts : ℕ → ℕ → ℕ → Bool
bad_parts m reals imags = not (reals == m) || not (imags == m)

-- 1 to 10, 4 in any word of the two lists too; of the parts only how many there are
abbrev pub part_lines : ℕ → List ℕ → List ℕ → ℕ → ℕ → List ℕ → ℕ → ℕ → List ℕ → ℕ → ℕ → List TableLine
part_lines n xs zs reals imags bras breals bimags kets kreals kimags =
    lines_to10 n xs zs reals imags
    (too_long bras || too_long kets)
    (bad_parts (length bras) breals bimags || bad_parts (length kets) kreals kimags)
    (some (set_from n) bras || some (set_from n) kets)

abbrev pub vector_lines : ℕ → Terms → State → State → List TableLine
vector_lines n A bra ket =
    part_lines n A.xs A.zs (length A.re) (length A.im)
    bra.words (length bra.re) (length bra.im)
    ket.words (length ket.re) (length ket.im)

-- ---- the work

-- the element between two words: the sum over the block, which is 0 where there is none
abbrev pub element_at : Terms → ℕ → ℕ → Gauss
element_at A bra ket = let s = block_sum A.xs A.zs A.re A.im (bit_xor bra ket) ket in gauss s.re s.im

-- the sum so far, and whether every number so far is an i64
pub record Running : Type 0 where
  pub fits : Bool
  pub sum : Gauss

-- one pair more, of coefficients b and k and element e: its twelve numbers, and both parts of the sum
abbrev pub with_pair : Running → Gauss → Gauss → Gauss → Running
with_pair r b k e = record { fits = (r.fits && pair_fits b k e) && both_within (r.sum ⊕ pair_of b k e); sum = r.sum ⊕ pair_of b k e }

-- a step at 0, 1, .. up to, not including, n
unfoldable pub through : {S : Type 0} → (S → ℕ → S) → S → ℕ → S
through f s zero = s
through f s (suc n) = f (through f s n) n

-- ket j, for a bra of word w and coefficient b; and bra i, with all kets
abbrev pub on_ket : Terms → State → ℕ → Gauss → Running → ℕ → Running
on_ket A ket w b r j = with_pair r b (coefficient_at ket j) (element_at A w (slice_index ket.words j))

abbrev pub on_bra : Terms → State → State → Running → ℕ → Running
on_bra A bra ket r i = through (on_ket A ket (slice_index bra.words i) (coefficient_at bra i)) r (length ket.words)

-- all pairs, bra outer, ket inner, from zero on
abbrev pub no_pair : Running
no_pair = record { fits = true; sum = g0 }

abbrev pub all_pairs : Terms → State → State → Running
all_pairs A bra ket = through (on_bra A bra ket) no_pair (length bra.words)

-- ---- the answer: a number of 1 to 10, else 16 where a number on the way leaves i64, else the sum

abbrev pub total : ℕ → Running → Total
total zero r = cond r.fits (Sum r.sum.re r.sum.im) (Refused 16)
total (suc k) r = Refused (suc k)

unfoldable pub total_of : ℕ → Terms → State → State → Total
total_of n A bra ket = total (by_rank (vector_lines n A bra ket)) (all_pairs A bra ket)
