-- RULES 8.17, "leaves i64": which whole numbers are i64, and which numbers of a complex product are looked at: its four real products, of the parts as
-- they stand, and its two sums. Whole numbers without bound. Assumes nothing.
use Rattle.std.specs.Prelude.{Bool, ◌&&◌, ℕ, ◌+◌, ◌^◌, ltb, ℤ, nat_abs, ◌+ℤ◌, ◌-ℤ◌, ◌*ℤ◌}
use Rattle.std.specs.Int.Signed.{mag}
use Rattle.pauli.specs.Gauss.{Gauss, ◌⊗◌}

-- from -2^63 to 2^63 - 1: `mag` of n and of -(n + 1) is n
abbrev pub within : ℤ → Bool
within z = ltb (mag z) (2 ^ 63)

abbrev pub gauss : ℤ → ℤ → Gauss
gauss a b = record { re = a; im = b }

abbrev pub both_within : Gauss → Bool
both_within w = within w.re && within w.im

-- the four products of the parts
abbrev pub four_within : Gauss → Gauss → Bool
four_within u v = within (u.re *ℤ v.re) && (within (u.im *ℤ v.im) && (within (u.re *ℤ v.im) && within (u.im *ℤ v.re)))

-- u's conjugate times v: the minus sign is taken by subtracting
abbrev pub conj_times : Gauss → Gauss → Gauss
conj_times u v = record { re = u.re *ℤ v.re +ℤ u.im *ℤ v.im; im = u.re *ℤ v.im -ℤ u.im *ℤ v.re }

-- the six of a conjugate times a number, and of a number times a number
abbrev pub conj_fits : Gauss → Gauss → Bool
conj_fits u v = four_within u v && both_within (conj_times u v)

abbrev pub times_fits : Gauss → Gauss → Bool
times_fits u v = four_within u v && both_within (u ⊗ v)

-- a pair: bra coefficient, ket coefficient, and the element between them, which is 0 where there is no block
abbrev pub pair_fits : Gauss → Gauss → Gauss → Bool
pair_fits b k e = conj_fits b k && times_fits (conj_times b k) e

abbrev pub pair_of : Gauss → Gauss → Gauss → Gauss
pair_of b k e = conj_times b k ⊗ e

-- the absolute values of both parts, added
abbrev pub size_of : Gauss → ℕ
size_of u = nat_abs u.re + nat_abs u.im
