-- Unpacking undoes packing: a row that was laid in words, read again. Each word gives back its 64 places, and where the list has ended, I, because the bits
-- there were packed as 0. Assumes nothing.
use mathlib.Core.Path.{◌≡◌, refl, sym, ap, ap₂, ◌∙◌}
use mathlib.Core.Bool.{Bool}
use mathlib.Core.List.{List, [], ◌∷◌, ◌++◌}
use Prim.Native.Nat.{ℕ, zero, suc, ◌+◌, ◌-◌, ◌*◌, ◌≤◌, ◌<◌}
use native.Mathlib.Decide.{dec_lt}
use native.Mathlib.Nat.{suc-mul, suc_inj, le_of_suc-le-suc, not-suc-le-zero}
use native.Mathlib.Omega.{arith}
use lib.ListN.{length, get_or, take, drop, length-append, length-take, length-drop, get_or-append}
use lib.Seq.{get_or-take, get_or-drop, get_or-append-add, length-take-le, ext_get_or}
use Rattle.pauli.specs.Pauli.{Pauli, of_bits, has_x, has_z}
use Rattle.pauli.specs.declared.PauliMatrix.TheVariants.{I}
use Rattle.encoding.specs.Words.{word, unpack, join, pack, qubits}
use Rattle.encoding.proofs.WordLaws.{length-word, join-odd, join-half}
use Rattle.pauli.proofs.RowLaws.{both_of}

word_none : (d k : ℕ) → get_or (word d 0 0) k I ≡ I
unfolding word
word_none zero k = refl
word_none (suc d) zero = refl
word_none (suc d) (suc k) = word_none d k

-- a word that was packed, read again
word_same : (d : ℕ) (qs : List Pauli) → length qs ≤ d → (k : ℕ) → get_or (word d (join has_x qs) (join has_z qs)) k I ≡ get_or qs k I
unfolding word join
word_same d [] h k = word_none d k
word_same zero (q ∷ qs) h k = absurd (not-suc-le-zero h)
word_same (suc d) (q ∷ qs) h zero = ap₂ of_bits (join-odd has_x q qs) (join-odd has_z q qs) ∙ both_of q
word_same (suc d) (q ∷ qs) h (suc k) =
    ap₂ (λ (x z : ℕ). get_or (word d x z) k I) (join-half has_x q qs) (join-half has_z q qs) ∙ word_same d qs (le_of_suc-le-suc h) k

pub unpack-same : (w : ℕ) (ps : List Pauli) → length ps ≤ w * 64 → (k : ℕ) → k < w * 64 → get_or (unpack (pack has_x w ps) (pack has_z w ps)) k I ≡ get_or ps k I
unfolding unpack pack
unpack-same zero ps h k l = absurd (not-suc-le-zero l)
unpack-same (suc w) ps h k l =
    go (λ (i : 64 ≤ k). unpack-same w (drop 64 ps) (omega (arith, length-drop 64 ps, suc-mul w 64)) (k - 64) (omega (arith, suc-mul w 64))) (dec_lt k 64)
  where
    A : List Pauli
    A = word 64 (join has_x (take 64 ps)) (join has_z (take 64 ps))

    B : List Pauli
    B = unpack (pack has_x w (drop 64 ps)) (pack has_z w (drop 64 ps))

    l_a : length A ≡ 64
    l_a = length-word 64 (join has_x (take 64 ps)) (join has_z (take 64 ps))

    go : (64 ≤ k → get_or B (k - 64) I ≡ get_or (drop 64 ps) (k - 64) I) → Dec (k < 64) → get_or (A ++ B) k I ≡ get_or ps k I
    go ih (yes i) = get_or-append A B I k (omega (arith, l_a)) ∙ word_same 64 (take 64 ps) (omega (arith, length-take 64 ps)) k ∙ get_or-take 64 ps k I i
    go ih (no i) =
        let e : k ≡ 64 + (k - 64) = omega arith in
        ap (λ (n : ℕ). get_or (A ++ B) n I) (e ∙ ap (λ (n : ℕ). n + (k - 64)) (sym l_a))
        ∙ get_or-append-add A B (k - 64) I
        ∙ ih (omega arith)
        ∙ get_or-drop 64 ps (k - 64) I
        ∙ ap (λ (n : ℕ). get_or ps n I) (sym e)

pub length-unpack : (xs zs : List ℕ) → length zs ≡ length xs → length (unpack xs zs) ≡ length xs * 64
unfolding unpack
length-unpack [] zs e = refl
length-unpack (x ∷ xs) [] e = absurd (omega arith)
length-unpack (x ∷ xs) (z ∷ zs) e =
    omega (arith, length-append (word 64 x z) (unpack xs zs), length-word 64 x z, length-unpack xs zs (suc_inj e), suc-mul (length xs) 64)

pub length-pack : {A : Type 0} (f : A → Bool) (w : ℕ) (ps : List A) → length (pack f w ps) ≡ w
unfolding pack
length-pack f zero ps = refl
length-pack f (suc w) ps = ap suc (length-pack f w (drop 64 ps))

-- a row of n qubits that was packed into w words, read again
pub qubits-pack : (n w : ℕ) (ps : List Pauli) → length ps ≡ n → n ≤ w * 64 → qubits n (pack has_x w ps) (pack has_z w ps) ≡ ps
qubits-pack n w ps e h =
    let lx : length (pack has_x w ps) ≡ w = length-pack has_x w ps in
    let u = unpack (pack has_x w ps) (pack has_z w ps) in
    let lu : length u ≡ w * 64 = length-unpack (pack has_x w ps) (pack has_z w ps) (length-pack has_z w ps ∙ sym lx) ∙ ap (λ (m : ℕ). m * 64) lx in
    let lq : length (take n u) ≡ n = length-take-le n u (omega arith) in
    ext_get_or I (take n u) ps (lq ∙ sym e)
    (λ i hi. get_or-take n u i I (omega arith) ∙ unpack-same w ps (omega arith) i (omega arith))

pub length-qubits : (n : ℕ) (xs zs : List ℕ) → length zs ≡ length xs → n ≤ length xs * 64 → length (qubits n xs zs) ≡ n
length-qubits n xs zs e h = length-take-le n (unpack xs zs) (omega (arith, length-unpack xs zs e))
