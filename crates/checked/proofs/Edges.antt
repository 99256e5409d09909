-- The ends, computed: where each of the nine numbers that can leave i64 does, and none before it in the order of the work; and a number next to it that
-- stays. The premise of `never` is sharp: one more than it allows, and 16 arises. Assumes nothing.
use mathlib.Core.Path.{◌≡◌, refl}
use mathlib.Core.Bool.{true, false}
use lib.IntN.{pos, negsuc}
use Rattle.checked.specs.Range.{gauss, conj_fits, times_fits, pair_fits}

-- the real sum of the first six: all four parts -2^31 give 2^63; one part less in size stays
all-least : conj_fits (gauss (negsuc 2147483647) (negsuc 2147483647)) (gauss (negsuc 2147483647) (negsuc 2147483647)) ≡ false
all-least = refl

next-to-least : conj_fits (gauss (negsuc 2147483647) (negsuc 2147483647)) (gauss (negsuc 2147483647) (negsuc 2147483646)) ≡ true
next-to-least = refl

-- a product leaves i64 and the sum it is in does not: (2^32 + i) (2^31 + i) has the real part 2^63 - 1
product-leaves : times_fits (gauss (pos 4294967296) (pos 1)) (gauss (pos 2147483648) (pos 1)) ≡ false
product-leaves = refl

-- sizes 2^31, 2^31 and 2: their product is 2^63, one more than the premise allows, and the real product leaves i64; with 2^31 - 1 for one of them it does not
one-too-many : pair_fits (gauss (negsuc 2147483647) (pos 0)) (gauss (negsuc 2147483647) (pos 0)) (gauss (pos 2) (pos 0)) ≡ false
one-too-many = refl

at-the-edge : pair_fits (gauss (negsuc 2147483647) (pos 0)) (gauss (pos 2147483647) (pos 0)) (gauss (pos 2) (pos 0)) ≡ true
at-the-edge = refl
