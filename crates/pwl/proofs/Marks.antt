-- Marks as bits are marks as numbers: a table with 1 for each bit that is set (`spread`) is marked as the bits are, so that what is known of marks that are
-- numbers (`Marking`, of the lists in memory) serves for bits. Assumes nothing.
use Rattle.pwl.proofs.Kit.{◌≡◌, sym, ap, ◌∙◌, Bool, true, false, cond, List, ℕ, ◌*◌, ◌/◌, ◌%◌, ◌^◌, ◌<◌, arith, length, get_or, set, length-set}
use native.Mathlib.Decide.{dec_lt, ℕ_discrete}
use native.Mathlib.Nat.{suc-ne-zero}
use lib.ListN.{get_or-eq_default}
use lib.Seq.{ext_get_or, get_or-set_same, get_or-set_other}
use Rattle.encoding.specs.Words.{odd, bit_at}
use Rattle.encoding.specs.Set.{list}
use Rattle.encoding.proofs.BitLaws.{zero_bit}
use Rattle.encoding.proofs.Parts.{length-list, get_or-list}
use Rattle.encoding.proofs.Qubits.{bit-same, bit-other}
use Rattle.terms.specs.Workers.{Blank}
use Rattle.pwl.specs.Workers.{marked}

abbrev number : List ℕ → ℕ → ℕ
number marks k = cond (bit_at marks (k / 64) (k % 64)) 1 0

abbrev pub spread : List ℕ → List ℕ
spread marks = list (64 * length marks) (number marks)

pub spread-long : (marks : List ℕ) → length (spread marks) ≡ 64 * length marks
spread-long marks = length-list (64 * length marks) (number marks)

spread_at : (marks : List ℕ) (k : ℕ) → k < 64 * length marks → get_or (spread marks) k 0 ≡ number marks k
spread_at marks k h = get_or-list (64 * length marks) (number marks) k 0 h

-- what a look at a bit says of the number
pub on-found : (marks : List ℕ) (k : ℕ) → k < 64 * length marks → bit_at marks (k / 64) (k % 64) ≡ true → get_or (spread marks) k 0 ≡ 0 → ⊥
on-found marks k h e z = suc-ne-zero 0 (sym (spread_at marks k h ∙ ap (λ (b : Bool). cond b 1 0) e) ∙ z)

pub off-found : (marks : List ℕ) (k : ℕ) → k < 64 * length marks → bit_at marks (k / 64) (k % 64) ≡ false → get_or (spread marks) k 0 ≡ 0
off-found marks k h e = spread_at marks k h ∙ ap (λ (b : Bool). cond b 1 0) e

pub spread-blank : (marks : List ℕ) → Blank marks → Blank (spread marks)
unfolding bit_at
spread-blank marks z k = go (dec_lt k (64 * length marks))
  where
    go : Dec (k < 64 * length marks) → get_or (spread marks) k 0 ≡ 0
    go (yes h) = off-found marks k h (ap (λ (v : ℕ). odd (v / 2 ^ (k % 64))) (z (k / 64)) ∙ zero_bit (k % 64))
    go (no h) = get_or-eq_default (spread marks) 0 {n = k} (omega (arith, h, spread-long marks))

pub marked-long : (k : ℕ) (marks : List ℕ) → length (marked k marks) ≡ length marks
unfolding marked
marked-long k marks = length-set marks (k / 64) _

pub spread-marked : (k : ℕ) (marks : List ℕ) → k < 64 * length marks → set (spread marks) k 1 ≡ spread (marked k marks)
unfolding marked
spread-marked k marks h =
    ext_get_or 0 (set (spread marks) k 1) (spread (marked k marks))
    (length-set (spread marks) k 1 ∙ spread-long marks ∙ ap (λ (n : ℕ). 64 * n) (sym (marked-long k marks)) ∙ sym (spread-long (marked k marks)))
    (λ j l. at j (omega (arith, l, length-set (spread marks) k 1, spread-long marks)) (ℕ_discrete j k))
  where
    inside : k / 64 < length marks
    inside = omega (arith, h)

    at : (j : ℕ) → j < 64 * length marks → Dec (j ≡ k) → get_or (set (spread marks) k 1) j 0 ≡ get_or (spread (marked k marks)) j 0
    at j l (yes e) =
        ap (λ (i : ℕ). get_or (set (spread marks) k 1) i 0) e ∙ get_or-set_same (spread marks) k 1 0 (omega (arith, h, spread-long marks))
        ∙ sym (spread_at (marked k marks) j (omega (arith, l, marked-long k marks)) ∙ ap (number (marked k marks)) e
        ∙ ap (λ (b : Bool). cond b 1 0) (bit-same marks (k / 64) (k % 64) true inside))
    at j l (no e) =
        get_or-set_other (spread marks) k j 1 0 e ∙ spread_at marks j l
        ∙ sym (spread_at (marked k marks) j (omega (arith, l, marked-long k marks))
        ∙ ap (λ (b : Bool). cond b 1 0) (bit-other marks (k / 64) (k % 64) true inside (j / 64) (j % 64) (λ a b. e (omega (arith, a, b)))))
