-- What a pair of words holds: each place is a qubit, packing undoes unpacking and the other way round, the exclusive or of words is the product of
-- their Paulis, and of a state's word the action. Assumes nothing.
use mathlib.Core.Path.{◌≡◌, refl, sym, ap, ap₂, ◌∙◌}
use mathlib.Core.Bool.{Bool, beq}
use mathlib.Core.List.{List, [], ◌∷◌, ◌++◌}
use Prim.Native.Nat.{ℕ, zero, suc, ◌+◌, ◌*◌, ◌/◌, ◌^◌, ◌<◌}
use native.Mathlib.Nat.{pow-suc, div-one, not-suc-le-zero, le_of_suc-le-suc, suc_inj}
use native.Mathlib.Numerals.{one-add}
use native.Mathlib.Omega.{arith}
use lib.Arith.{lt-one, digits_div, digits_mod}
use lib.Bits.{bit_xor}
use lib.Pow.{shr-shr}
use lib.ListN.{length, get_or}
use lib.Seq.{take_at, drop_at}
use mir.Syntax.{w64}
use mir.Val.{Fits}
use Rattle.pauli.specs.Pauli.{Pauli, of_bits, has_x, has_z, each, total, ◌·◌, mul, turn, turn_phase, act, act_phase}
use Rattle.pauli.specs.declared.PauliMatrix.TheVariants.{I}
use Rattle.encoding.specs.Words.{odd, bit, word, bits, unpack, unbits, join, pack}
use Rattle.pauli.specs.Row.{eq_p}
use Rattle.pauli.proofs.Bools.{same_bit}
use Rattle.pauli.proofs.Every.{bools, at₃, at₄, same-pauli}
use Rattle.pauli.proofs.Lists.{each_nil, each_append, total-append}
use Rattle.pauli.proofs.RowLaws.{has_x-of, has_z-of, both_of}
use Rattle.encoding.proofs.Odd.{xorᵇ, bit-lt, bit-odd, odd-of, xor-odd, xor-half}

pub length-word : (d x z : ℕ) → length (word d x z) ≡ d
unfolding word
length-word zero x z = refl
length-word (suc d) x z = ap suc (length-word d (x / 2) (z / 2))

-- qubit k is bit k
pub word-at : (d x z k : ℕ) → k < d → get_or (word d x z) k I ≡ of_bits (odd (x / 2 ^ k)) (odd (z / 2 ^ k))
unfolding word
word-at zero x z k h = absurd (not-suc-le-zero h)
word-at (suc d) x z zero h = ap₂ (λ (a b : ℕ). of_bits (odd a) (odd b)) (sym (div-one x)) (sym (div-one z))
word-at (suc d) x z (suc k) h =
    word-at d (x / 2) (z / 2) k (le_of_suc-le-suc h)
    ∙ ap₂ (λ (a b : ℕ). of_bits (odd a) (odd b)) (shr-shr x 1 k ∙ ap (λ (e : ℕ). x / 2 ^ e) (one-add k)) (shr-shr z 1 k ∙ ap (λ (e : ℕ). z / 2 ^ e) (one-add k))

-- ---- packing undoes unpacking

pub half_lt : (d : ℕ) {x : ℕ} → x < 2 ^ suc d → x / 2 < 2 ^ d
half_lt d {x} h = omega (arith, pow-suc 2 d)

pub back : (x : ℕ) → x / 2 * 2 + bit (odd x) ≡ x
back x = omega (arith, bit-odd x)

pub join-x : (d x z : ℕ) → x < 2 ^ d → join has_x (word d x z) ≡ x
unfolding word join
join-x zero x z h = sym (lt-one h)
join-x (suc d) x z h = ap₂ (λ (a : ℕ) (b : Bool). a * 2 + bit b) (join-x d (x / 2) (z / 2) (half_lt d h)) (has_x-of (odd x) (odd z)) ∙ back x

pub join-z : (d x z : ℕ) → z < 2 ^ d → join has_z (word d x z) ≡ z
unfolding word join
join-z zero x z h = sym (lt-one h)
join-z (suc d) x z h = ap₂ (λ (a : ℕ) (b : Bool). a * 2 + bit b) (join-z d (x / 2) (z / 2) (half_lt d h)) (has_z-of (odd x) (odd z)) ∙ back z

pub length-bits : (d r : ℕ) → length (bits d r) ≡ d
unfolding bits
length-bits zero r = refl
length-bits (suc d) r = ap suc (length-bits d (r / 2))

pub join-b : (d r : ℕ) → r < 2 ^ d → join (λ (b : Bool). b) (bits d r) ≡ r
unfolding bits join
join-b zero r h = sym (lt-one h)
join-b (suc d) r h = ap (λ (a : ℕ). a * 2 + bit (odd r)) (join-b d (r / 2) (half_lt d h)) ∙ back r

-- ---- and the other way round

pub join-odd : {A : Type 0} (f : A → Bool) (p : A) (ps : List A) → odd (join f (p ∷ ps)) ≡ f p
unfolding join
join-odd f p ps = odd-of (join f ps * 2 + bit (f p)) (f p) (digits_mod (join f ps) (bit-lt (f p)))

pub join-half : {A : Type 0} (f : A → Bool) (p : A) (ps : List A) → join f (p ∷ ps) / 2 ≡ join f ps
unfolding join
join-half f p ps = digits_div (join f ps) (bit-lt (f p))

pub word-join : (ps : List Pauli) → word (length ps) (join has_x ps) (join has_z ps) ≡ ps
unfolding word
word-join [] = refl
word-join (p ∷ ps) =
    ap₂ (λ (q : Pauli) (qs : List Pauli). q ∷ qs) (ap₂ of_bits (join-odd has_x p ps) (join-odd has_z p ps) ∙ both_of p)
    (ap₂ (word (length ps)) (join-half has_x p ps) (join-half has_z p ps) ∙ word-join ps)

-- ---- the exclusive or of words

xor-of : (a b c e : Bool) → of_bits (xorᵇ a c) (xorᵇ b e) ≡ of_bits a b · of_bits c e
xor-of a b c e =
    same-pauli (of_bits (xorᵇ a c) (xorᵇ b e)) (of_bits a b · of_bits c e)
    (at₄ bools bools bools bools (λ a b c e. eq_p (of_bits (xorᵇ a c) (xorᵇ b e)) (of_bits a b · of_bits c e)) tt a b c e)

pub word-mul : (d a b c e : ℕ) → word d (bit_xor a c) (bit_xor b e) ≡ mul (word d a b) (word d c e)
unfolding word
word-mul zero a b c e = refl
word-mul (suc d) a b c e =
    ap₂ (λ (q : Pauli) (qs : List Pauli). q ∷ qs) (ap₂ of_bits (xor-odd a c) (xor-odd b e) ∙ xor-of (odd a) (odd b) (odd c) (odd e))
    (ap₂ (word d) (xor-half a c) (xor-half b e) ∙ word-mul d (a / 2) (b / 2) (c / 2) (e / 2))

turn-of : (a b r : Bool) → xorᵇ a r ≡ turn (of_bits a b) r
turn-of a b r = same_bit (xorᵇ a r) (turn (of_bits a b) r) (at₃ bools bools bools (λ a b r. beq (xorᵇ a r) (turn (of_bits a b) r)) tt a b r)

pub bits-act : (d a b r : ℕ) → bits d (bit_xor a r) ≡ act (word d a b) (bits d r)
unfolding word bits
bits-act zero a b r = refl
bits-act (suc d) a b r =
    ap₂ (λ (q : Bool) (qs : List Bool). q ∷ qs) (xor-odd a r ∙ turn-of (odd a) (odd b) (odd r))
    (ap (bits d) (xor-half a r) ∙ bits-act d (a / 2) (b / 2) (r / 2))

-- ---- runs of words

same : (x z x' z' : ℕ) → length (word 64 x z) ≡ length (word 64 x' z')
same x z x' z' = length-word 64 x z ∙ sym (length-word 64 x' z')

-- word by word
abbrev pub xors : List ℕ → List ℕ → List ℕ
xors = each bit_xor

pub unpack-mul : (lx lz rx rz : List ℕ) → unpack (xors lx rx) (xors lz rz) ≡ mul (unpack lx lz) (unpack rx rz)
unfolding unpack
unpack-mul [] lz rx rz = refl
unpack-mul (a ∷ lx) [] [] rz = refl
unpack-mul (a ∷ lx) [] (c ∷ rx) rz = refl
unpack-mul (a ∷ lx) (b ∷ lz) [] rz = sym (each_nil ◌·◌ (word 64 a b ++ unpack lx lz))
unpack-mul (a ∷ lx) (b ∷ lz) (c ∷ rx) [] = sym (each_nil ◌·◌ (word 64 a b ++ unpack lx lz))
unpack-mul (a ∷ lx) (b ∷ lz) (c ∷ rx) (e ∷ rz) =
    ap₂ (λ (u v : List Pauli). u ++ v) (word-mul 64 a b c e) (unpack-mul lx lz rx rz)
    ∙ sym (each_append ◌·◌ (word 64 a b) (unpack lx lz) (word 64 c e) (unpack rx rz) (same a b c e))

pub unpack-total : (v : Pauli → Pauli → ℕ) (a b c e : ℕ) (lx lz rx rz : List ℕ)
    → total v (unpack (a ∷ lx) (b ∷ lz)) (unpack (c ∷ rx) (e ∷ rz)) ≡ total v (word 64 a b) (word 64 c e) + total v (unpack lx lz) (unpack rx rz)
unfolding unpack
unpack-total v a b c e lx lz rx rz = total-append v (word 64 a b) (unpack lx lz) (word 64 c e) (unpack rx rz) (same a b c e)

-- ---- what is packed from a run of words

-- one word more, where A is what the word holds
pack-word : {A : Type 0} (f : A → Bool) (w x : ℕ) (a b : List A) (l : List ℕ) → length a ≡ 64 → join f a ≡ x → pack f w b ≡ l
    → pack f (suc w) (a ++ b) ≡ x ∷ l
unfolding pack
pack-word f w x a b l e p q = ap₂ (λ (n : ℕ) (l : List ℕ). n ∷ l) (ap (join f) (take_at a b 64 e) ∙ p) (ap (pack f w) (drop_at a b 64 e) ∙ q)

abbrev pub Fit : List ℕ → Type 0
Fit xs = (k : ℕ) → Fits w64 (get_or xs k 0)

pub pack-x : (xs zs : List ℕ) → length zs ≡ length xs → Fit xs → pack has_x (length xs) (unpack xs zs) ≡ xs
unfolding pack unpack
pack-x [] zs e h = refl
pack-x (x ∷ xs) [] e h = absurd (omega arith)
pack-x (x ∷ xs) (z ∷ zs) e h =
    pack-word has_x (length xs) x (word 64 x z) (unpack xs zs) xs (length-word 64 x z) (join-x 64 x z (h 0).fits) (pack-x xs zs (suc_inj e) (λ k. h (suc k)))

pub pack-z : (xs zs : List ℕ) → length zs ≡ length xs → Fit zs → pack has_z (length xs) (unpack xs zs) ≡ zs
unfolding pack unpack
pack-z [] [] e h = refl
pack-z [] (z ∷ zs) e h = absurd (omega arith)
pack-z (x ∷ xs) [] e h = absurd (omega arith)
pack-z (x ∷ xs) (z ∷ zs) e h =
    pack-word has_z (length xs) z (word 64 x z) (unpack xs zs) zs (length-word 64 x z) (join-z 64 x z (h 0).fits) (pack-z xs zs (suc_inj e) (λ k. h (suc k)))

pub pack-b : (rs : List ℕ) → Fit rs → pack (λ (b : Bool). b) (length rs) (unbits rs) ≡ rs
unfolding pack unbits
pack-b [] h = refl
pack-b (r ∷ rs) h = pack-word (λ (b : Bool). b) (length rs) r (bits 64 r) (unbits rs) rs (length-bits 64 r) (join-b 64 r (h 0).fits) (pack-b rs (λ k. h (suc k)))

-- ---- a run of words on a state

pub unbits-act : (xs zs rs : List ℕ) → length zs ≡ length xs → unbits (xors xs rs) ≡ act (unpack xs zs) (unbits rs)
unfolding unpack unbits
unbits-act [] zs rs e = refl
unbits-act (x ∷ xs) [] rs e = absurd (omega arith)
unbits-act (x ∷ xs) (z ∷ zs) [] e = sym (each_nil turn (word 64 x z ++ unpack xs zs))
unbits-act (x ∷ xs) (z ∷ zs) (r ∷ rs) e =
    ap₂ (λ (u v : List Bool). u ++ v) (bits-act 64 x z r) (unbits-act xs zs rs (suc_inj e))
    ∙ sym (each_append turn (word 64 x z) (unpack xs zs) (bits 64 r) (unbits rs) (length-word 64 x z ∙ sym (length-bits 64 r)))

pub unbits-total : (a b r : ℕ) (xs zs rs : List ℕ)
    → act_phase (unpack (a ∷ xs) (b ∷ zs)) (unbits (r ∷ rs)) ≡ act_phase (word 64 a b) (bits 64 r) + act_phase (unpack xs zs) (unbits rs)
unfolding unpack unbits
unbits-total a b r xs zs rs = total-append turn_phase (word 64 a b) (unpack xs zs) (bits 64 r) (unbits rs) (length-word 64 a b ∙ sym (length-bits 64 r))
