-- One qubit of a row's two parts: reading it, setting it, reading it back. Qubit q is bit q mod 64 of word q div 64 of each part, and setting it changes
-- that bit alone, so that every other qubit reads as before. Assumes nothing.
use mathlib.Core.Path.{◌≡◌, refl, sym, ap, ap₂, ◌∙◌}
use mathlib.Core.Logic.{◌≢◌}
use mathlib.Core.Bool.{Bool, true, false, cond, ◌&&◌}
use mathlib.Core.List.{List, [], ◌∷◌}
use Prim.Native.Nat.{ℕ, ◌+◌, ◌*◌, ◌/◌, ◌%◌, ◌^◌, ◌≤◌, ◌<◌, zero-le}
use native.Mathlib.Nat.{suc-mul, div-add-mod'}
use native.Mathlib.Decide.{dec_lt, ℕ_discrete}
use native.Mathlib.Omega.{arith}
use borrow.Author.Tests.{lt-ltb, eq-eqb, ne_eqb}
use lib.ListN.{length, get_or, set, length-append, length-set, get_or-eq_default}
use lib.Seq.{get_or-set_same, get_or-set_other}
use Rattle.pauli.specs.Pauli.{Pauli, of_bits, has_x, has_z}
use Rattle.pauli.specs.declared.PauliMatrix.TheVariants.{I}
use Rattle.pauli.proofs.RowLaws.{both_of}
use Rattle.encoding.specs.Words.{odd, bit_at, with_bit, word, unpack}
use Rattle.encoding.specs.Set.{within, QubitSet}
use Rattle.encoding.proofs.WordLaws.{length-word}
use Rattle.encoding.proofs.BitLaws.{zero_bit, unpack-at}
use Rattle.encoding.proofs.OneBit.{bit-with}

-- ---- reading

pub qubit-at : (xs zs : List ℕ) (q : ℕ) → q / 64 < length xs → q / 64 < length zs
    → get_or (unpack xs zs) q I ≡ of_bits (bit_at xs (q / 64) (q % 64)) (bit_at zs (q / 64) (q % 64))
qubit-at xs zs q hx hz =
    ap (λ (i : ℕ). get_or (unpack xs zs) i I) (sym (div-add-mod' q 64)) ∙ unpack-at xs zs (q / 64) (q % 64) hx hz (omega arith)

no-longer-x : (xs zs : List ℕ) → length (unpack xs zs) ≤ length xs * 64
unfolding unpack
no-longer-x [] zs = zero-le
no-longer-x (x ∷ xs) [] = zero-le
no-longer-x (x ∷ xs) (z ∷ zs) = omega (arith, length-append (word 64 x z) (unpack xs zs), length-word 64 x z, no-longer-x xs zs, suc-mul (length xs) 64)

no-longer-z : (xs zs : List ℕ) → length (unpack xs zs) ≤ length zs * 64
unfolding unpack
no-longer-z [] zs = zero-le
no-longer-z (x ∷ xs) [] = zero-le
no-longer-z (x ∷ xs) (z ∷ zs) = omega (arith, length-append (word 64 x z) (unpack xs zs), length-word 64 x z, no-longer-z xs zs, suc-mul (length zs) 64)

pub past-x : (xs zs : List ℕ) (q : ℕ) → length xs ≤ q / 64 → get_or (unpack xs zs) q I ≡ I
past-x xs zs q h = get_or-eq_default (unpack xs zs) I (omega (arith, no-longer-x xs zs))

pub past-z : (xs zs : List ℕ) (q : ℕ) → length zs ≤ q / 64 → get_or (unpack xs zs) q I ≡ I
past-z xs zs q h = get_or-eq_default (unpack xs zs) I (omega (arith, no-longer-z xs zs))

pub no-bit : (xs : List ℕ) (j k : ℕ) → length xs ≤ j → bit_at xs j k ≡ false
unfolding bit_at
no-bit xs j k h = ap (λ (v : ℕ). odd (v / 2 ^ k)) (get_or-eq_default xs 0 h) ∙ zero_bit k

-- ---- setting

pub inside : (q : ℕ) (xs zs : List ℕ) → q / 64 < length xs → q / 64 < length zs → within q xs zs ≡ true
inside q xs zs hx hz = ap₂ ◌&&◌ (lt-ltb _ _ hx) (lt-ltb _ _ hz)

-- ---- bits after a bit was made b

module _ (us : List ℕ) (t k : ℕ) (b : Bool) (ht : t < length us) where
  pub bit-same : bit_at (set us t (with_bit (get_or us t 0) k b)) t k ≡ b
  unfolding bit_at
  bit-same =
      ap (λ (n : ℕ). odd (n / 2 ^ k)) (get_or-set_same us t (with_bit (get_or us t 0) k b) 0 ht) ∙ bit-with (get_or us t 0) k b k
      ∙ ap (λ (c : Bool). cond c b (odd (get_or us t 0 / 2 ^ k))) (eq-eqb k k refl)

  pub bit-other : (t' k' : ℕ) → (t' ≡ t → k' ≡ k → ⊥) → bit_at (set us t (with_bit (get_or us t 0) k b)) t' k' ≡ bit_at us t' k'
  unfolding bit_at
  bit-other t' k' ne = go (ℕ_discrete t' t)
    where
      v : ℕ
      v = with_bit (get_or us t 0) k b

      go : Dec (t' ≡ t) → odd (get_or (set us t v) t' 0 / 2 ^ k') ≡ odd (get_or us t' 0 / 2 ^ k')
      go (yes e) =
          ap (λ (i : ℕ). odd (get_or (set us t v) i 0 / 2 ^ k')) e
          ∙ ap (λ (n : ℕ). odd (n / 2 ^ k')) (get_or-set_same us t v 0 ht) ∙ bit-with (get_or us t 0) k b k'
          ∙ ap (λ (c : Bool). cond c b (odd (get_or us t 0 / 2 ^ k'))) (ne_eqb k' k (ne e))
          ∙ ap (λ (i : ℕ). odd (get_or us i 0 / 2 ^ k')) (sym e)
      go (no e) = ap (λ (n : ℕ). odd (n / 2 ^ k')) (get_or-set_other us t t' v 0 e)

-- ---- reading back what was set

module _ (q : ℕ) (p : Pauli) (xs zs : List ℕ) {xs' zs' : List ℕ} (hx : q / 64 < length xs) (hz : q / 64 < length zs) (s : QubitSet q p xs zs xs' zs') where
  x-set : xs' ≡ set xs (q / 64) (with_bit (get_or xs (q / 64) 0) (q % 64) (has_x p))
  x-set = s.x-words ∙ ap (λ (b : Bool). cond b (set xs (q / 64) (with_bit (get_or xs (q / 64) 0) (q % 64) (has_x p))) xs) (inside q xs zs hx hz)

  z-set : zs' ≡ set zs (q / 64) (with_bit (get_or zs (q / 64) 0) (q % 64) (has_z p))
  z-set = s.z-words ∙ ap (λ (b : Bool). cond b (set zs (q / 64) (with_bit (get_or zs (q / 64) 0) (q % 64) (has_z p))) zs) (inside q xs zs hx hz)

  x-long : length xs' ≡ length xs
  x-long = ap length x-set ∙ length-set xs (q / 64) (with_bit (get_or xs (q / 64) 0) (q % 64) (has_x p))

  z-long : length zs' ≡ length zs
  z-long = ap length z-set ∙ length-set zs (q / 64) (with_bit (get_or zs (q / 64) 0) (q % 64) (has_z p))

  -- the qubit that was set is read back
  pub read_back : get_or (unpack xs' zs') q I ≡ p
  read_back =
      qubit-at xs' zs' q (omega (arith, x-long)) (omega (arith, z-long))
      ∙ ap₂ of_bits
      (ap (λ (l : List ℕ). bit_at l (q / 64) (q % 64)) x-set ∙ bit-same xs (q / 64) (q % 64) (has_x p) hx)
      (ap (λ (l : List ℕ). bit_at l (q / 64) (q % 64)) z-set ∙ bit-same zs (q / 64) (q % 64) (has_z p) hz)
      ∙ both_of p

  -- every other qubit is as it was
  pub others_same : (k : ℕ) → k ≢ q → get_or (unpack xs' zs') k I ≡ get_or (unpack xs zs) k I
  others_same k ne = go (dec_lt (k / 64) (length xs)) (dec_lt (k / 64) (length zs))
    where
      apart : k / 64 ≡ q / 64 → k % 64 ≡ q % 64 → ⊥
      apart e f = ne (sym (div-add-mod' k 64) ∙ ap₂ (λ (a b : ℕ). a * 64 + b) e f ∙ div-add-mod' q 64)

      go : Dec (k / 64 < length xs) → Dec (k / 64 < length zs) → get_or (unpack xs' zs') k I ≡ get_or (unpack xs zs) k I
      go (yes a) (yes b) =
          qubit-at xs' zs' k (omega (arith, x-long)) (omega (arith, z-long))
          ∙ ap₂ of_bits
          (ap (λ (l : List ℕ). bit_at l (k / 64) (k % 64)) x-set ∙ bit-other xs (q / 64) (q % 64) (has_x p) hx (k / 64) (k % 64) apart)
          (ap (λ (l : List ℕ). bit_at l (k / 64) (k % 64)) z-set ∙ bit-other zs (q / 64) (q % 64) (has_z p) hz (k / 64) (k % 64) apart)
          ∙ sym (qubit-at xs zs k a b)
      go (no a) d = past-x xs' zs' k (omega (arith, x-long)) ∙ sym (past-x xs zs k (omega arith))
      go (yes a) (no b) = past-z xs' zs' k (omega (arith, z-long)) ∙ sym (past-z xs zs k (omega arith))
