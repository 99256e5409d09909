-- Reading what was written gives the value back: writers' texts spell their values, and what spells a value is read.
-- (For row texts: OneText.canonical-back. A line's fields: Lines.fields-back.)
use Rattle.text.proofs.Kit.{◌≡◌, false, List, ◌++◌, ℕ, ◌+◌, ◌^◌, ◌<◌, ◌≤◌, arith, T, length}
use lib.IntN.{ℤ}
use lib.Signed.{mag}
use lib.Ieee.{Float, fits, binary64}
use Rattle.text.specs.Readers.{Got, got, starts}
use Rattle.text.specs.Numbers.{digits, numeral, number, Stops, integral, integer, float, pattern}
use Rattle.text.specs.Lists.{listed, list}
use Rattle.text.proofs.Numbers.{number-back, numeral-spells}
use Rattle.text.proofs.Lists.{Agree, list_back, All, listed-spells}
use Rattle.text.proofs.Items.{integers, integral-spells, floats, pattern-spells}

pub word_back : (v : ℕ) (t : List ℕ) → v ≤ 18446744073709551615 → Stops 16 t → number 16 18446744073709551615 (numeral 16 v ++ t) ≡ got v t
word_back v t h =
    number-back 16 18446744073709551615 (omega arith) (numeral 16 v) t (numeral-spells 16 (omega arith) (omega arith) 18446744073709551615 v 15 (omega arith) (omega arith) (omega arith) h)

pub decimal-back : (top : ℕ) → top < 10 ^ 20 → (v : ℕ) (t : List ℕ) → v ≤ top → Stops 10 t → number 10 top (numeral 10 v ++ t) ≡ got v t
decimal-back top l v t h =
    number-back 10 top (omega arith) (numeral 10 v) t (numeral-spells 10 (omega arith) (omega arith) top v 19 (omega arith) (omega arith) (omega arith) h)

pub integer-back : (top : ℕ) → top + 1 < 10 ^ 20 → (z : ℤ) (t : List ℕ) → mag z ≤ top → Stops 10 t → integer top (integral z ++ t) ≡ got z t
integer-back top l z t h = (integers top).back (integral z) t (integral-spells top l z h)

pub float_back : (x : Float) (t : List ℕ) → T (fits binary64 x) → Stops 16 t → float (digits 16 16 (pattern x) ++ t) ≡ got x t
float_back x t h = floats.back (digits 16 16 (pattern x)) t (pattern-spells x h)

module _ {A : Type 0} {read : List ℕ → Got A} {Item : A → List ℕ → Type 0} {Ends : List ℕ → Type 0} (a : Agree read Item Ends) (write : A → List ℕ) (Fine : A → Type 0) (spells : (v : A) → Fine v → Item v (write v)) where
  pub written_back : (room : ℕ) (vs : List A) (t : List ℕ) → All write Item Fine spells vs → length vs ≤ room → Ends t → starts 44 t ≡ false → list read room (listed write vs ++ t) ≡ got vs t
  written_back room vs t f = list_back a room vs (listed write vs) t (listed-spells write Item Fine spells vs f)
