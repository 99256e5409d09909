-- The premises of demand 3's uniqueness can be met: one row Z, listed, with the order X0, Z0. The order names every column, no product of listed starting
-- rows is the identity with an exponent other than 0, and the start itself with an empty log is a claim that gets yes. Assumes nothing.
use mathlib.Core.Path.{◌≡◌, refl, subst, sym, ◌∙◌, ap}
use mathlib.Core.Logic.{inl, inr}
use mathlib.Core.List.{List, [], ◌∷◌}
use Prim.Native.Nat.{ℕ, zero, suc}
use native.Mathlib.Omega.{arith}
use Rattle.pauli.specs.declared.PauliMatrix.TheVariants.{I, Z}
use Rattle.pauli.specs.Row.{Row, pad_mul, mul_row, bit_of, same_qubits}
use Rattle.encoding.specs.Words.{word, unpack, join, pack, lay_rows}
use Rattle.encoding.specs.Set.{Mem, mem_of, word_in, exponent_at, lay_exponents, rows_held, rows_of, list, lay_in}
use Rattle.encoding.specs.Refusals.{some, some_below, bad_bits, bad_phases, answer_or}
use Rattle.reduction.specs.Lists.{In, All, has, distinct, every}
use Rattle.reduction.specs.Replay.{replay, product_of}
use Rattle.reduction.specs.Log.{pairs}
use Rattle.reduction.specs.Form.{zeros_in, only_in, reduced_from, reduced}
use Rattle.reduction.specs.Checker.{first_bad, first_diff, verdict_by, verdict, working, working_by}
use Rattle.encoding.specs.Ranks.{by_rank, place_in, placed, joined}
use Rattle.replay.specs.Check.{Task, task, claim, Yes}
use Rattle.replay.specs.Demand.{NoPhaseAtStart, EveryColumn}
use Rattle.replay.proofs.Examples.{Answered}

abbrev start : Mem
start = mem_of 1 (0 ∷ []) (1 ∷ []) (0 ∷ [])

abbrev pub one-row : Task
one-row = task 1 start (0 ∷ 1 ∷ []) (0 ∷ []) []

-- the checker says yes to it, and leaves it as it was
pub accepted : Answered (record { given = one-row; claimed = claim [] start; says = Yes; left = start })
unfolding answer_or pad_mul mul_row bit_of same_qubits word unpack join pack lay_rows word_in exponent_at lay_exponents rows_held list lay_in by_rank place_in placed joined some some_below bad_bits bad_phases has distinct every replay pairs zeros_in only_in reduced_from reduced first_bad first_diff verdict_by verdict working working_by
accepted = (refl, refl)

pub every-column : EveryColumn one-row
every-column zero h = inl refl
every-column (suc zero) h = inr (inl refl)
every-column (suc (suc c)) h = absurd (omega arith)

-- the products of the row with itself: Z and I, both with exponent 0
data Power : Row → Type 0 where
  odd : Power (record { ps = Z ∷ []; p = 0 })
  even : Power (record { ps = I ∷ []; p = 0 })

abbrev σ : ℕ → Row
σ = rows_of 1 start

row_is : σ 0 ≡ record { ps = Z ∷ []; p = 0 }
unfolding exponent_at rows_held unpack word
row_is = refl

only : (j : ℕ) → In j (0 ∷ []) → j ≡ 0
only j (inl e) = e
only j (inr e) = elim e [ ]

listed-is : (j : ℕ) → In j (0 ∷ []) → σ j ≡ record { ps = Z ∷ []; p = 0 }
listed-is j h = ap σ (only j h) ∙ row_is

times : {r : Row} → Power r → Power (mul_row 1 r (record { ps = Z ∷ []; p = 0 }))
unfolding mul_row pad_mul
times odd = even
times even = odd

powers : (r : Row) → Power r → (ks : List ℕ) → All (λ j. In j (0 ∷ [])) ks → Power (product_of (mul_row 1) σ r ks)
unfolding product_of
powers r w [] h = w
powers r w (k ∷ ks) h = powers (mul_row 1 r (σ k)) (subst (λ s. Power (mul_row 1 r s)) (sym (listed-is k h.0)) (times w)) ks h.1

zero-phase : {r : Row} → Power r → r.p ≡ 0
zero-phase odd = refl
zero-phase even = refl

pub no-phase : NoPhaseAtStart one-row
no-phase k ks h off = zero-phase (powers (σ k) (subst Power (sym (listed-is k h.0)) odd) ks h.1)
