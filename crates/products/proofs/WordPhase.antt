-- The counts of masked words are sums over the qubits: of exponents, and of clashes. A mask is a test of the bits of one place, and that the masks add up
-- to the value wanted at each place is one computed test over all bits of a place (`counts₄`). Assumes nothing.
use Rattle.std.proofs.Common.{◌≡◌, ℕ, zero, suc, ◌+◌, ◌*◌, ◌/◌, ◌%◌, ◌^◌, ◌<◌, Bool, false, T, eqb, List, [], ◌∷◌, get_or, refl, ap, ◌∙◌, arith, pow_pos}
use lib.Bits.{bit_and, bit_xor}
use lib.Count.{ones}
use Rattle.pauli.specs.Pauli.{Pauli, total, phase, phases, turn_phase, act_phase, clash, clashes}
use Rattle.encoding.specs.Words.{odd, word, bits}
use Rattle.pauli.specs.Pauli.{of_bits}
use Rattle.products.proofs.Masks.{Mask, var, inv, both, either, differ, Below, word_of, word_lt, counted, place, places, every_l, counts}

pub below₄ : (d : ℕ) {a b c e : ℕ} → a < 2 ^ d → b < 2 ^ d → c < 2 ^ d → e < 2 ^ d → Below d (a ∷ b ∷ c ∷ e ∷ [])
below₄ d ha hb hc he zero = ha
below₄ d ha hb hc he (suc zero) = hb
below₄ d ha hb hc he (suc (suc zero)) = hc
below₄ d ha hb hc he (suc (suc (suc zero))) = he
below₄ d ha hb hc he (suc (suc (suc (suc k)))) = pow_pos d

pub below₃ : (d : ℕ) {a b c : ℕ} → a < 2 ^ d → b < 2 ^ d → c < 2 ^ d → Below d (a ∷ b ∷ c ∷ [])
below₃ d ha hb hc zero = ha
below₃ d ha hb hc (suc zero) = hb
below₃ d ha hb hc (suc (suc zero)) = hc
below₃ d ha hb hc (suc (suc (suc k))) = pow_pos d

below₂ : (d : ℕ) {a b : ℕ} → a < 2 ^ d → b < 2 ^ d → Below d (a ∷ b ∷ [])
below₂ d ha hb zero = ha
below₂ d ha hb (suc zero) = hb
below₂ d ha hb (suc (suc k)) = pow_pos d

-- ---- what one place holds: left and right Pauli, or a Pauli and a bit

abbrev left_p : List Bool → Pauli
left_p bs = of_bits (get_or bs 0 false) (get_or bs 1 false)

abbrev right_p : List Bool → Pauli
right_p bs = of_bits (get_or bs 2 false) (get_or bs 3 false)

total-places : (v : Pauli → Pauli → ℕ) (d a b c e : ℕ) → places d (λ bs. v (left_p bs) (right_p bs)) (a ∷ b ∷ c ∷ e ∷ []) ≡ total v (word d a b) (word d c e)
unfolding places word
total-places v zero a b c e = refl
total-places v (suc d) a b c e = ap (λ (n : ℕ). v (of_bits (odd a) (odd b)) (of_bits (odd c) (odd e)) + n) (total-places v d (a / 2) (b / 2) (c / 2) (e / 2))

act-places : (d a b r : ℕ) → places d (λ bs. turn_phase (left_p bs) (get_or bs 2 false)) (a ∷ b ∷ r ∷ []) ≡ act_phase (word d a b) (bits d r)
unfolding places word bits
act-places zero a b r = refl
act-places (suc d) a b r = ap (λ (n : ℕ). turn_phase (of_bits (odd a) (odd b)) (odd r) + n) (act-places d (a / 2) (b / 2) (r / 2))

-- ---- the masks

abbrev lx : Mask
lx = var 0

abbrev lz : Mask
lz = var 1

abbrev rx : Mask
rx = var 2

abbrev rz : Mask
rz = var 3

-- four masks at once
abbrev all₄ : Mask → Mask → Mask → Mask → Mask
all₄ a b c d = both (both (both a b) c) d

-- XY, ZX and YZ bring 1; YX, XZ and ZY bring 3
abbrev pub joined : List (ℕ × Mask)
joined =
    (1, either (either (all₄ lx (inv lz) rx rz) (all₄ (inv lx) lz rx (inv rz))) (all₄ lx lz (inv rx) rz))
    ∷ (3, either (either (all₄ lx lz rx (inv rz)) (all₄ lx (inv lz) (inv rx) rz)) (all₄ (inv lx) lz rx rz))
    ∷ []

-- where the Paulis clash, and where they bring 3
abbrev clash-mask : Mask
clash-mask = differ (both lx rz) (both lz rx)

abbrev three-mask : Mask
three-mask = both (differ (differ (differ lx rx) (differ lz rz)) (both lx rz)) clash-mask

abbrev pub apart : List (ℕ × Mask)
apart = (1, clash-mask) ∷ []

abbrev pub with-threes : List (ℕ × Mask)
with-threes = (1, clash-mask) ∷ (2, three-mask) ∷ []

-- on a state: Y, and Y or Z on 1
abbrev pub acting : List (ℕ × Mask)
acting = (1, both lx lz) ∷ (2, both lz rx) ∷ []

-- ---- their counts

-- four words: where the masks add up to v at one place, which a test shows
pub counts₄ : (v : Pauli → Pauli → ℕ) (ms : List (ℕ × Mask)) → T (every_l 4 (λ bs. eqb (place bs ms) (v (left_p bs) (right_p bs))))
    → (d a b c e : ℕ) → Below d (a ∷ b ∷ c ∷ e ∷ []) → counted d (a ∷ b ∷ c ∷ e ∷ []) ms ≡ total v (word d a b) (word d c e)
counts₄ v ms t d a b c e h = counts ms (λ bs. v (left_p bs) (right_p bs)) 4 t d (a ∷ b ∷ c ∷ e ∷ []) refl h ∙ total-places v d a b c e

pub joined-phases : (d a b c e : ℕ) → Below d (a ∷ b ∷ c ∷ e ∷ []) → counted d (a ∷ b ∷ c ∷ e ∷ []) joined ≡ phases (word d a b) (word d c e)
joined-phases = counts₄ phase joined tt

pub apart-clashes : (d a b c e : ℕ) → Below d (a ∷ b ∷ c ∷ e ∷ []) → counted d (a ∷ b ∷ c ∷ e ∷ []) apart ≡ clashes (word d a b) (word d c e)
apart-clashes = counts₄ clash apart tt

threes-phases : (d a b c e : ℕ) → Below d (a ∷ b ∷ c ∷ e ∷ []) → counted d (a ∷ b ∷ c ∷ e ∷ []) with-threes ≡ phases (word d a b) (word d c e)
threes-phases = counts₄ phase with-threes tt

-- THE LAW OF TURNED BITS: an exclusive or has the ones of both, less two for each that they share
pub ones-xor : (d a b : ℕ) → a < 2 ^ d → b < 2 ^ d → ones (bit_xor a b) + 2 * ones (bit_and a b) ≡ ones a + ones b
ones-xor d a b h k =
    let v : List Bool → ℕ = λ bs. place bs ((1, var 0) ∷ (1, var 1) ∷ []) in
    let one = counts ((1, differ (var 0) (var 1)) ∷ (2, both (var 0) (var 1)) ∷ []) v 2 tt d (a ∷ b ∷ []) refl (below₂ d h k) in
    let two = counts ((1, var 0) ∷ (1, var 1) ∷ []) v 2 tt d (a ∷ b ∷ []) refl (below₂ d h k) in
    omega arith

-- so twice the ones of f, where the bits of the threes were turned over, and the clashes are what the product brings, mod 4
pub turned : (d a b c e f : ℕ) → Below d (a ∷ b ∷ c ∷ e ∷ []) → f < 2 ^ d
    → (2 * ones (bit_xor f (word_of d (a ∷ b ∷ c ∷ e ∷ []) three-mask)) + clashes (word d a b) (word d c e)) % 4 ≡ (2 * ones f + phases (word d a b) (word d c e)) % 4
turned d a b c e f h k =
    omega (arith, apart-clashes d a b c e h, threes-phases d a b c e h, ones-xor d f (word_of d (a ∷ b ∷ c ∷ e ∷ []) three-mask) k (word_lt d (a ∷ b ∷ c ∷ e ∷ []) three-mask h))

pub acting-phases : (d a b r : ℕ) → Below d (a ∷ b ∷ r ∷ []) → counted d (a ∷ b ∷ r ∷ []) acting ≡ act_phase (word d a b) (bits d r)
acting-phases d a b r h = counts acting (λ bs. turn_phase (left_p bs) (get_or bs 2 false)) 3 tt d (a ∷ b ∷ r ∷ []) refl h ∙ act-places d a b r
