-- The bound is the largest: one more, and a call answers with another number. And the order of terms, where parts are larger. By computation.
-- Assumes nothing.
use mathlib.Core.Path.{◌≡◌, refl, sym, ap, subst}
use mathlib.Core.Bool.{Bool, true, false}
use mathlib.Core.List.{List, [], ◌∷◌}
use Prim.Native.Nat.{ℕ, zero, suc, ◌^◌, ◌<◌}
use native.Mathlib.Omega.{arith}
use lib.Dec.{lit≤}
use lib.Ieee.{Float, nan, fin, add, neg, fits}
use lib.IntN.{ℤ, pos, nat_abs}
use lib.ListN.{get_or}
use Rattle.encoding.specs.Refusals.{some, some_below}
use Rattle.encoding.specs.Ranks.{by_rank}
use Rattle.encoding.specs.Words.{word, bits}
use Rattle.mat_elem.specs.Terms.{falls_after}
use Rattle.mat_elem.specs.Sums.{Sum, sum_over}
use Rattle.mat_elem.specs.float.Sums.{overflows, element_of, plus_zero}
use Rattle.mat_elem.proofs.float.Meaning.{AllF64, mat-elem}
use Rattle.mat_elem.specs.whole.Sums.{complex, block_sum}
use Rattle.exact.specs.Whole.{Reads, whole, size_to, exact_max, WholeBlock}
use Rattle.exact.specs.Claims.{ExactTo}
use Rattle.exact.proofs.Reading.{reads-one}

-- 2 to the e
abbrev two : ℕ → Float
two e = fin false 1 (pos e)

-- two terms I of one qubit, with the coefficients 2 to the 53 and 1; bra and ket are 0
abbrev zeros : List ℕ
zeros = 0 ∷ 0 ∷ []

abbrev reals : List Float
reals = two 53 ∷ two 0 ∷ []

abbrev wholes : List ℤ
wholes = pos (2 ^ 53) ∷ pos 1 ∷ []

abbrev no_floats : List Float
no_floats = plus_zero ∷ plus_zero ∷ []

abbrev no_wholes : List ℤ
no_wholes = pos 0 ∷ pos 0 ∷ []

-- at the bound: 2 to the 53 less 1, and 1
pub at_bound : element_of 1 zeros zeros (fin false 9007199254740991 (pos 0) ∷ two 0 ∷ []) no_floats 0 0 ≡ Sum (two 53) plus_zero
unfolding element_of overflows sum_over by_rank some some_below falls_after word bits add neg
at_bound = refl

-- past it: the float call gives 2 to the 53, the whole-number sum is one more
pub float-sum : element_of 1 zeros zeros reals no_floats 0 0 ≡ Sum (two 53) plus_zero
unfolding element_of overflows sum_over by_rank some some_below falls_after word bits add neg
float-sum = refl

pub whole_sum : block_sum zeros zeros wholes no_wholes 0 0 ≡ complex (pos (suc (2 ^ 53))) (pos 0)
unfolding sum_over word bits
whole_sum = refl

nil : Reads plus_zero (pos 0)
nil = whole {x = plus_zero} false 0 (refl, refl)

power : (e : ℕ) → Reads (two e) (pos (2 ^ e))
power e = whole {x = two e} false (2 ^ e) (refl, omega arith)

-- ... though only the bound is passed, by one
past_bound : WholeBlock (suc exact_max) 1 zeros zeros reals no_floats wholes no_wholes 0 0
unfolding by_rank some falls_after bits size_to sum_over
past_bound = record { taken = refl; re-whole = λ k h _. re-at k h; im-whole = λ k h _. im-at k h; small = lit≤ tt }
  where
    re-at : (k : ℕ) → k < 2 → Reads (get_or reals k nan) (get_or wholes k (pos 0))
    re-at zero h = power 53
    re-at (suc zero) h = power 0
    re-at (suc (suc k)) h = absurd (omega arith)

    im-at : (k : ℕ) → k < 2 → Reads (get_or no_floats k nan) (get_or no_wholes k (pos 0))
    im-at zero h = nil
    im-at (suc zero) h = nil
    im-at (suc (suc k)) h = absurd (omega arith)

-- the coefficients are f64, so the call can be made
reals-f64 : AllF64 reals
unfolding fits
reals-f64 zero = tt
reals-f64 (suc zero) = tt
reals-f64 (suc (suc k)) = tt

zeros-f64 : AllF64 no_floats
unfolding fits
zeros-f64 zero = tt
zeros-f64 (suc zero) = tt
zeros-f64 (suc (suc k)) = tt

pub sharp : ExactTo (suc exact_max) → ⊥
sharp e =
    let c = mat-elem 1 zeros zeros reals no_floats 0 0 reals-f64 zeros-f64 (sym float-sum) in
    let a = e 1 zeros zeros reals no_floats wholes no_wholes 0 0 (Sum (two 53) plus_zero) c past_bound in
    let r : Reads (two 53) (pos (suc (2 ^ 53))) = subst (λ s. Reads (two 53) s.re) whole_sum a.0 in
    let n : 2 ^ 53 ≡ suc (2 ^ 53) = ap nat_abs (reads-one (two 53) (pos (2 ^ 53)) (pos (suc (2 ^ 53))) (power 53) r) in
    omega arith

-- ---- the order of terms: (1 + 1e16) - 1e16 is 0, and (-1e16 + 1e16) + 1 is 1
abbrev large : Bool → Float
large s = fin s 152587890625 (pos 16)

abbrev three : List ℕ
three = 0 ∷ 0 ∷ 0 ∷ []

abbrev none : List Float
none = plus_zero ∷ plus_zero ∷ plus_zero ∷ []

pub in-list-order : element_of 1 three three (two 0 ∷ large false ∷ large true ∷ []) none 0 0 ≡ Sum plus_zero plus_zero
unfolding element_of overflows sum_over by_rank some some_below falls_after word bits add neg
in-list-order = refl

pub reversed : element_of 1 three three (large true ∷ large false ∷ two 0 ∷ []) none 0 0 ≡ Sum (two 0) plus_zero
unfolding element_of overflows sum_over by_rank some some_below falls_after word bits add neg
reversed = refl
