-- RULES 8, "Matrix elements", over the numbers of either edition: what the walk over a block adds up, which partial sums refuse the call, and the answer
-- by what the search found. Assumes nothing.
use Rattle.std.specs.Prelude.{ℕ, suc, ◌+◌, ◌%◌, ◌<◌, Bool, true, cond, not, ◌&&◌, ◌||◌, List, length, ℤ, pos, ◌+ℤ◌, neg_ℤ, nat_le, slice_index, slice_index_or, Option, Some, None, Result, Ok, Err, Float}
use Rattle.std.specs.Float.{nan, binary64}
use Rattle.std.specs.Float.Ieee.{add, neg}
use Rattle.std.specs.Float.Ieee.Scale.{finite}
use Rattle.encoding.specs.Refusals.{some, some_below}
use Rattle.checked.specs.declared.Complex.{Complex}
use Rattle.mat_elem.specs.Terms.{max_terms}
use Rattle.mat_elem.specs.Sums.{Element, NoBlock, Refused, exponent_of, turned, sum_over}
use Rattle.mat_elem.specs.Workers.{found_of}
use Rattle.mat_elem.specs.float.Sums.{plus_zero}
use Rattle.mat_elem.specs.declared.Place.{Place}
use Rattle.encoding.specs.declared.Refusal.{Refusal}

-- what an edition does with numbers: of a part of a coefficient it makes a number; and which numbers may stand in a partial sum. `past` is the part past
-- the end of a list, which is never read
pub record Arithmetic (P A : Type 0) : Type 0 where
  pub past : P
  pub widened : P → A
  pub zero : A
  pub minus : A → A
  pub plus : A → A → A
  pub sound : A → Bool

-- whole numbers: exact, and all sound; floats: each addition rounded once, and sound where finite
abbrev pub wholes : Arithmetic ℤ ℤ
wholes = record { past = pos 0; widened = λ z. z; zero = pos 0; minus = neg_ℤ; plus = ◌+ℤ◌; sound = λ z. true }

abbrev pub floats : Arithmetic Float Float
floats = record { past = nan; widened = λ x. x; zero = plus_zero; minus = neg; plus = add binary64; sound = finite }

abbrev pub complex : {A : Type 0} → A → A → Complex A
complex a b = record { re = a; im = b }

-- of those in a ring the one at a place, and the one before it
abbrev pub ring_at : {A : Type 0} → List A → ℕ → A → Complex A
ring_at four k none = complex (slice_index_or four k none) (slice_index_or four ((k + 3) % 4) none)

-- ---- what a sum of so many parts can be: `reaches n a`

-- a may grow by b, which is one part
pub record Addable {A : Type 0} (reaches : ℕ → A → Type 0) (a b : A) : Type 0 where
  pub count : ℕ
  pub few : count < max_terms
  pub so_far : reaches count a
  pub one : reaches 1 b

-- both parts of s may grow
pub record Reached {A : Type 0} (reaches : ℕ → A → Type 0) (s : Complex A) : Type 0 where
  pub count : ℕ
  pub few : count < max_terms
  pub re : reaches count s.re
  pub im : reaches count s.im

module _ {P A : Type 0} (o : Arithmetic P A) where
  -- c times i to the k
  abbrev pub turned_by : ℕ → Complex A → Complex A
  turned_by k c = complex (turned o.minus k c.re c.im).0 (turned o.minus k c.re c.im).1

  abbrev pub plus : Complex A → Complex A → Complex A
  plus a b = complex (o.plus a.re b.re) (o.plus a.im b.im)

  abbrev pub none : Complex A
  none = complex o.zero o.zero

  abbrev pub coefficient_of : P → P → Complex A
  coefficient_of a b = complex (o.widened a) (o.widened b)

  -- what term i adds: its coefficient, turned by the exponent of its action on the ket
  abbrev pub term_at : List ℕ → List ℕ → List P → List P → ℕ → ℕ → Complex A
  term_at xs zs re im ket i =
      turned_by (exponent_of (slice_index xs i) (slice_index zs i) ket) (coefficient_of (slice_index_or re i o.past) (slice_index_or im i o.past))

  -- the sum of the terms from `first` up to, not including, n
  abbrev pub span_sum : List ℕ → List ℕ → List P → List P → ℕ → ℕ → ℕ → Complex A
  span_sum xs zs re im ket first n = sum_over (λ i. nat_le first i) plus none (term_at xs zs re im ket) n

  abbrev pub both_sound : Complex A → Bool
  both_sound c = o.sound c.re && o.sound c.im

  -- a coefficient not sound, in any term, in the block or not
  abbrev pub wild : List P → List P → Bool
  wild re im = some (λ a. not (o.sound (o.widened a))) re || some (λ a. not (o.sound (o.widened a))) im

  -- the sum from `first` up to, not including, `last`, where it and all sums before it are sound
  unfoldable pub span_of : List ℕ → List ℕ → List P → List P → ℕ → ℕ → ℕ → Option (Complex A)
  span_of xs zs re im ket first last =
      cond (some_below (suc last) (λ n. not (both_sound (span_sum xs zs re im ket first n)))) None (Some (span_sum xs zs re im ket first last))

  -- ---- the answer, by what the search found: a number of the table, 11, no block, the sum, or 12
  abbrev pub sum_or : Option (Complex A) → Element A
  sum_or None = Refused 12
  sum_or (Some s) = Ok (Some s)

  abbrev pub answer_by : Result Place Refusal → List ℕ → List ℕ → List P → List P → ℕ → Element A
  answer_by (Err e) xs zs re im ket = Err e
  answer_by (Ok p) xs zs re im ket =
      cond (wild re im) (Refused 11) (cond (nat_le p.last p.first) NoBlock (sum_or (span_of xs zs re im ket p.first p.last)))

  abbrev pub answer_of : ℕ → List ℕ → List ℕ → List P → List P → ℕ → ℕ → Element A
  answer_of n xs zs re im bra ket = answer_by (found_of n xs zs (length re) (length im) bra ket) xs zs re im ket
