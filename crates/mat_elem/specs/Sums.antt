-- RULES 8, "Matrix elements": what a term of the block adds, and the sum over the block, over any numbers that have a negation and an addition.
-- Assumes nothing.
use Rattle.std.specs.Prelude.{ℕ, zero, suc, ◌%◌, Bool, true, false, Option, Some, None, Result, Ok, Err}
use Rattle.pauli.specs.Pauli.{act_phase}
use Rattle.encoding.specs.Words.{word, bits}
use Rattle.encoding.specs.declared.Refusal.{Refusal}
use Rattle.checked.specs.declared.Complex.{Complex}

-- what a call answers: the complex sum over the block, no block, or a refusal by its number
abbrev pub Element : Type 0 → Type 0
Element A = Result (Option (Complex A)) Refusal

module _ {A : Type 0} where
  abbrev pub Sum : A → A → Element A
  Sum a b = Ok (Some (record { re = a; im = b }))

  abbrev pub NoBlock : Element A
  NoBlock = Ok None

  abbrev pub Refused : ℕ → Result A Refusal
  Refused k = Err (record { 0 = k })

-- the exponent of a term's action on the ket
abbrev pub exponent_of : ℕ → ℕ → ℕ → ℕ
exponent_of x z ket = act_phase (word 64 x z) (bits 64 ket) % 4

module _ {A : Type 0} where
  -- turning by the exponent maps (a,b) to (a,b), (-b,a), (-a,-b), (b,-a)
  abbrev pub turned : (A → A) → ℕ → A → A → A × A
  turned minus zero a b = (a, b)
  turned minus (suc zero) a b = (minus b, a)
  turned minus (suc (suc zero)) a b = (minus a, minus b)
  turned minus (suc (suc (suc k))) a b = (b, minus a)

  abbrev pub step_if : Bool → (A → A) → A → A
  step_if true f a = f a
  step_if false f a = a

  -- the sum of `term i` over those i below n that are picked, in their order, from `none` on
  unfoldable pub sum_over : (ℕ → Bool) → (A → A → A) → A → (ℕ → A) → ℕ → A
  sum_over at plus none term zero = none
  sum_over at plus none term (suc i) = step_if (at i) (λ s. plus s (term i)) (sum_over at plus none term i)

-- one of three, by the table's number k: where k is 0, the complex sum, or no block where there is none; else the refusal of that number
abbrev pub one_of : {E : Type 0} → (ℕ → E) → E → E → ℕ → Bool → E
one_of refused none sum zero true = sum
one_of refused none sum zero false = none
one_of refused none sum (suc k) block = refused (suc k)
