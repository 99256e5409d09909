-- What the checked operations answer: the number, or none where it, or one on the way to it, is no i64. Assumes nothing.
use Rattle.std.specs.Prelude.{Bool, ◌&&◌, cond, Option, Some, None, ℤ, ◌+ℤ◌, ◌-ℤ◌, ◌*ℤ◌}
use Rattle.pauli.specs.Gauss.{Gauss, ◌⊕◌, ◌⊗◌}
use Rattle.checked.specs.Range.{within, gauss, both_within, conj_times, conj_fits, times_fits, pair_fits, pair_of}
use Rattle.checked.specs.declared.Complex.{Complex}

-- an answer: z where f holds, and none where not
abbrev pub given : {A : Type 0} → Bool → A → Option A
given f z = cond f (Some z) None

abbrev pub checked : ℤ → Option ℤ
checked z = given (within z) z

-- both products, and then their sum or difference z, are i64
abbrev pub all : ℤ → ℤ → ℤ → Bool
all x y z = within x && (within y && within z)

abbrev pub sum_of_products : ℤ → ℤ → ℤ → ℤ → Option ℤ
sum_of_products a b c d = given (all (a *ℤ b) (c *ℤ d) (a *ℤ b +ℤ c *ℤ d)) (a *ℤ b +ℤ c *ℤ d)

abbrev pub difference_of_products : ℤ → ℤ → ℤ → ℤ → Option ℤ
difference_of_products a b c d = given (all (a *ℤ b) (c *ℤ d) (a *ℤ b -ℤ c *ℤ d)) (a *ℤ b -ℤ c *ℤ d)

-- ---- complex numbers

abbrev pub number_of : Complex ℤ → Gauss
number_of z = gauss z.re z.im

abbrev pub complex : Gauss → Complex ℤ
complex u = record { re = u.re; im = u.im }

abbrev pub answer : Bool → Gauss → Option (Complex ℤ)
answer f u = given f (complex u)

unfoldable pub checked_product : Gauss → Gauss → Option (Complex ℤ)
checked_product u v = answer (times_fits u v) (u ⊗ v)

unfoldable pub checked_conjugate : Gauss → Gauss → Option (Complex ℤ)
checked_conjugate u v = answer (conj_fits u v) (conj_times u v)

unfoldable pub checked_sum : Gauss → Gauss → Option (Complex ℤ)
checked_sum u v = answer (both_within (u ⊕ v)) (u ⊕ v)

unfoldable pub checked_pair : Gauss → Gauss → Gauss → Option (Complex ℤ)
checked_pair b k e = answer (pair_fits b k e) (pair_of b k e)

-- the running sum with one answer more
abbrev pub plus_checked : Option (Complex ℤ) → Option (Complex ℤ) → Option (Complex ℤ)
plus_checked None t = None
plus_checked (Some s) None = None
plus_checked (Some s) (Some t) = checked_sum (number_of s) (number_of t)
