-- A basis state in words: its bits are those of a run of Ys, so what is known of rows serves; what its tests leave; laid in words and read again.
-- Assumes nothing.
use mathlib.Core.Path.{◌≡◌, refl, sym, ap, ap₂, ◌∙◌, subst}
use mathlib.Core.Bool.{Bool, true, false, ◌||◌}
use mathlib.Core.List.{List, [], ◌∷◌, ◌++◌, map, map-append}
use Prim.Native.Nat.{ℕ, zero, suc, ◌+◌, ◌*◌, ◌/◌, ◌%◌, ◌<◌}
use native.Mathlib.Nat.{div-add-mod'}
use native.Mathlib.Omega.{arith}
use borrow.Author.Tests.{eqb-true, not-false}
use lib.ListN.{length, get_or, drop, length-map}
use lib.Seq.{ext_get_or, get_or-take, length-take-le}
use Rattle.pauli.specs.Pauli.{Pauli, of_bits}
use Rattle.pauli.specs.declared.PauliMatrix.TheVariants.{I}
use Rattle.encoding.specs.Limits.{words_of}
use Rattle.encoding.specs.Words.{odd, bit_at, word, bits, unpack, unbits}
use Rattle.encoding.specs.Set.{state_of, lay_state}
use Rattle.encoding.specs.Refusals.{some, is_on, state_lines}
use Rattle.encoding.specs.Ranks.{by_rank}
use Rattle.encoding.proofs.Padding.{Only, only_of}
use Rattle.encoding.proofs.Reading.{length-unpack, length-pack}
use Rattle.encoding.proofs.BitLaws.{unpack-at, bit-pack}
use Rattle.encoding.proofs.Ranks.{none-holds}

some-map : {A : Type 0} (f : A → Bool) (n : ℕ) (l : List A) → some (λ (b : Bool). b) (drop n (map f l)) ≡ some f (drop n l)
unfolding some
some-map f zero [] = refl
some-map f zero (a ∷ l) = ap (λ (b : Bool). f a || b) (some-map f zero l)
some-map f (suc n) [] = refl
some-map f (suc n) (a ∷ l) = some-map f n l

on_both : (b : Bool) → is_on (of_bits b b) ≡ b
on_both true = refl
on_both false = refl

bits-on : (d r : ℕ) → map is_on (word d r r) ≡ bits d r
unfolding word bits
bits-on zero r = refl
bits-on (suc d) r = ap₂ (λ (b : Bool) (l : List Bool). b ∷ l) (on_both (odd r)) (bits-on d (r / 2))

unbits-on : (st : List ℕ) → map is_on (unpack st st) ≡ unbits st
unfolding unpack unbits
unbits-on [] = refl
unbits-on (r ∷ st) = map-append is_on (word 64 r r) (unpack st st) ∙ ap₂ (λ (u v : List Bool). u ++ v) (bits-on 64 r) (unbits-on st)

pub state-spare : (n : ℕ) (st : List ℕ) → some (λ (b : Bool). b) (drop n (unbits st)) ≡ some is_on (drop n (unpack st st))
state-spare n st = ap (λ (l : List Bool). some (λ (b : Bool). b) (drop n l)) (sym (unbits-on st)) ∙ some-map is_on n (unpack st st)

-- ---- what the tests leave

pub state-long : (n : ℕ) (st : List ℕ) → by_rank (state_lines n st) ≡ 0 → (length st ≡ words_of n) × Only false (drop n (unbits st))
state-long n st e =
    let no = none-holds (state_lines n st) refl e in
    (eqb-true (length st) (words_of n) (not-false _ (no 1)), only_of (λ (b : Bool). b) false (λ b g. g) (drop n (unbits st)) (no 2))

-- ---- laid, and read again

get_or-on : (l : List Pauli) (k : ℕ) → get_or (map is_on l) k false ≡ is_on (get_or l k I)
get_or-on [] k = refl
get_or-on (p ∷ l) zero = refl
get_or-on (p ∷ l) (suc k) = get_or-on l k

pub unbits-at : (xs : List ℕ) (j k : ℕ) → j < length xs → k < 64 → get_or (unbits xs) (j * 64 + k) false ≡ bit_at xs j k
unbits-at xs j k i l =
    ap (λ (b : List Bool). get_or b (j * 64 + k) false) (sym (unbits-on xs)) ∙ get_or-on (unpack xs xs) (j * 64 + k)
    ∙ ap is_on (unpack-at xs xs j k i i l) ∙ on_both (bit_at xs j k)

pub length-unbits : (xs : List ℕ) → length (unbits xs) ≡ length xs * 64
length-unbits xs = ap length (sym (unbits-on xs)) ∙ length-map (unpack xs xs) is_on ∙ length-unpack xs xs refl

pub length-state : (n : ℕ) (st : List ℕ) → length st ≡ words_of n → length (state_of n st) ≡ n
length-state n st e = length-take-le n (unbits st) (omega (arith, length-unbits st))

-- a state of n qubits that was laid, read again
pub state-back : (n : ℕ) (s : List Bool) → length s ≡ n → state_of n (lay_state n s) ≡ s
state-back n s e =
    let xs = lay_state n s in
    let lx : length xs ≡ words_of n = length-pack (λ (b : Bool). b) (words_of n) s in
    let lb : length (state_of n xs) ≡ n = length-state n xs lx in
    ext_get_or false (state_of n xs) s (lb ∙ sym e)
    (λ i h.
    let hi : i < n = subst (λ (k : ℕ). i < k) lb h in
    let hw : i / 64 < words_of n = omega arith in
    get_or-take n (unbits xs) i false hi
    ∙ ap (λ (k : ℕ). get_or (unbits xs) k false) (sym (div-add-mod' i 64))
    ∙ unbits-at xs (i / 64) (i % 64) (subst (λ (k : ℕ). i / 64 < k) (sym lx) hw) (omega arith)
    ∙ bit-pack (λ (b : Bool). b) false refl (words_of n) s (i / 64) (i % 64) hw (omega arith)
    ∙ ap (λ (k : ℕ). get_or s k false) (div-add-mod' i 64))
