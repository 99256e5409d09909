-- What a loop over the words of rows keeps: the words written so far, and counts that with those of the words to come are the whole counts (`Done`,
-- `Adding`). A word more moves its clashes and its threes from what is to come to what is counted. Assumes nothing.
use Rattle.std.proofs.Common.{◌≡◌, ℕ, zero, suc, ◌+◌, ◌*◌, ◌%◌, ◌^◌, ◌<◌, ◌≤◌, List, [], ◌∷◌, ◌++◌, length, get_or, take, drop, set, sym, refl, ap, ◌∙◌, ap₂, le_of_suc-le-suc, not-suc-le-zero, zero-add, add-one, arith, drop_of_length-le, drop-cons}
use native.Mathlib.Nat.{suc_inj}
use lib.Bits.{bit_xor, xor_lt}
use native.Mathlib.Decide.{dec_lt}
use lib.Seq.{drop-nil}
use Rattle.pauli.specs.Pauli.{Pauli, total, phase, mul, phases, clash, clashes}
use Rattle.encoding.specs.Words.{word, unpack, pack}
use Rattle.pauli.specs.Pauli.{has_x, has_z}
use Rattle.products.specs.Leaves.{SameLength, FactorOf, Product, shortest₄}
use Rattle.products.specs.declared.Factor.{Factor}
use lib.Count.{ones, ones_in}
use Rattle.pauli.proofs.Lists.{length-each}
use Rattle.encoding.proofs.WordLaws.{xors, unpack-mul, unpack-total, Fit, pack-x, pack-z}

-- ---- a list that is written from the front: the first i elements are v's, the others as they were

front-suc : (v d : List ℕ) (i : ℕ) → i < length v → i < length d → set (take i v ++ drop i d) i (get_or v i 0) ≡ take (suc i) v ++ drop (suc i) d
front-suc [] d i h k = absurd (not-suc-le-zero h)
front-suc (a ∷ v) [] i h k = absurd (not-suc-le-zero k)
front-suc (a ∷ v) (b ∷ d) zero h k = refl
front-suc (a ∷ v) (b ∷ d) (suc i) h k = ap (λ (l : List ℕ). a ∷ l) (front-suc v d i (le_of_suc-le-suc h) (le_of_suc-le-suc k))

pub front-more : (v d : List ℕ) (i : ℕ) → i < length v → i < length d → set (take i v ++ drop i d) i (get_or v i 0) ≡ take (i + 1) v ++ drop (i + 1) d
front-more v d i h k = rw (add-one i) (front-suc v d i h k)

pub front-all : (v d : List ℕ) → length v ≡ length d → take (length v) v ++ drop (length v) d ≡ v
front-all [] [] e = refl
front-all [] (b ∷ d) e = absurd (omega arith)
front-all (a ∷ v) [] e = absurd (omega arith)
front-all (a ∷ v) (b ∷ d) e = ap (λ (l : List ℕ). a ∷ l) (front-all v d (suc_inj e))

-- the first element that is not written yet
pub front_at : (v d : List ℕ) (i : ℕ) → i ≤ length v → get_or (take i v ++ drop i d) i 0 ≡ get_or d i 0
front_at v d zero h = refl
front_at [] d (suc i) h = absurd (omega arith)
front_at (a ∷ v) [] (suc i) h = ap (λ (l : List ℕ). get_or (take i v ++ l) i 0) (sym (drop-nil i)) ∙ front_at v [] i (omega arith)
front_at (a ∷ v) (b ∷ d) (suc i) h = front_at v d i (omega arith)

-- ---- words' exclusive or

pub length-xors : (a b : List ℕ) → length b ≡ length a → length (xors a b) ≡ length a
length-xors = length-each bit_xor

pub get_or-xors : (a b : List ℕ) (k : ℕ) → length b ≡ length a → get_or (xors a b) k 0 ≡ bit_xor (get_or a k 0) (get_or b k 0)
get_or-xors [] [] k e = refl
get_or-xors [] (y ∷ b) k e = absurd (omega arith)
get_or-xors (x ∷ a) [] k e = absurd (omega arith)
get_or-xors (x ∷ a) (y ∷ b) zero e = refl
get_or-xors (x ∷ a) (y ∷ b) (suc k) e = get_or-xors a b k (suc_inj e)

pub fit-xors : (a b : List ℕ) → length b ≡ length a → Fit a → Fit b → Fit (xors a b)
fit-xors a b e h g k = rw (get_or-xors a b k e) (record { fits = xor_lt 64 (get_or a k 0) (get_or b k 0) (h k).fits (g k).fits })

-- ---- the whole rows

-- the sum over the words from i on
abbrev pub to-come : (Pauli → Pauli → ℕ) → List ℕ → List ℕ → List ℕ → List ℕ → ℕ → ℕ
to-come v lx lz rx rz i = total v (unpack (drop i lx) (drop i lz)) (unpack (drop i rx) (drop i rz))

unpack-nil : (xs : List ℕ) → unpack xs [] ≡ []
unfolding unpack
unpack-nil [] = refl
unpack-nil (x ∷ xs) = refl

total-nil : (v : Pauli → Pauli → ℕ) (a : List Pauli) → total v a [] ≡ 0
total-nil v [] = refl
total-nil v (p ∷ a) = refl

-- past the end of one of the four nothing is to come
pub to-come-none : (v : Pauli → Pauli → ℕ) (lx lz rx rz : List ℕ) (i : ℕ) → shortest₄ lx lz rx rz ≤ i → to-come v lx lz rx rz i ≡ 0
unfolding unpack
to-come-none v lx lz rx rz i h = go (dec_lt i (length lx)) (dec_lt i (length lz)) (dec_lt i (length rx)) (dec_lt i (length rz))
  where
    past : (l : List ℕ) → length l ≤ i → drop i l ≡ []
    past l k = drop_of_length-le l k

    left : unpack (drop i lx) (drop i lz) ≡ [] → to-come v lx lz rx rz i ≡ 0
    left e = ap (λ (a : List Pauli). total v a (unpack (drop i rx) (drop i rz))) e

    right : unpack (drop i rx) (drop i rz) ≡ [] → to-come v lx lz rx rz i ≡ 0
    right e = ap (total v (unpack (drop i lx) (drop i lz))) e ∙ total-nil v (unpack (drop i lx) (drop i lz))

    go : Dec (i < length lx) → Dec (i < length lz) → Dec (i < length rx) → Dec (i < length rz) → to-come v lx lz rx rz i ≡ 0
    go (no a) b c d = left (ap (λ (l : List ℕ). unpack l (drop i lz)) (past lx (omega arith)))
    go (yes a) (no b) c d = left (ap (unpack (drop i lx)) (past lz (omega arith)) ∙ unpack-nil (drop i lx))
    go (yes a) (yes b) (no c) d = right (ap (λ (l : List ℕ). unpack l (drop i rz)) (past rx (omega arith)))
    go (yes a) (yes b) (yes c) (no d) = right (ap (unpack (drop i rx)) (past rz (omega arith)) ∙ unpack-nil (drop i rx))
    go (yes a) (yes b) (yes c) (yes d) = absurd (omega arith)

pub to-come-more : (v : Pauli → Pauli → ℕ) (lx lz rx rz : List ℕ) (i : ℕ) → i < length lx → i < length lz → i < length rx → i < length rz
    → to-come v lx lz rx rz i ≡ total v (word 64 (get_or lx i 0) (get_or lz i 0)) (word 64 (get_or rx i 0) (get_or rz i 0)) + to-come v lx lz rx rz (i + 1)
to-come-more v lx lz rx rz i h h₁ h₂ h₃ =
    rw (add-one i, drop-cons lx i 0 h, drop-cons lz i 0 h₁, drop-cons rx i 0 h₂, drop-cons rz i 0 h₃)
    (unpack-total v (get_or lx i 0) (get_or lz i 0) (get_or rx i 0) (get_or rz i 0) (drop (suc i) lx) (drop (suc i) lz) (drop (suc i) rx) (drop (suc i) rz))

module _ (lx lz rx rz : List ℕ) (hz : length lz ≡ length lx) (hx : length rx ≡ length lx) (hy : length rz ≡ length lx) where
  lengths : length (xors lz rz) ≡ length (xors lx rx)
  lengths = length-xors lz rz (hy ∙ sym hz) ∙ hz ∙ sym (length-xors lx rx hx)

  pub packed-x : Fit lx → Fit rx → xors lx rx ≡ pack has_x (length lx) (mul (unpack lx lz) (unpack rx rz))
  packed-x f g =
      sym (pack-x (xors lx rx) (xors lz rz) lengths (fit-xors lx rx hx f g))
      ∙ ap₂ (pack has_x) (length-xors lx rx hx) (unpack-mul lx lz rx rz)

  pub packed-z : Fit lz → Fit rz → xors lz rz ≡ pack has_z (length lx) (mul (unpack lx lz) (unpack rx rz))
  packed-z f g =
      sym (pack-z (xors lx rx) (xors lz rz) lengths (fit-xors lz rz (hy ∙ sym hz) f g))
      ∙ ap₂ (pack has_z) (length-xors lx rx hx) (unpack-mul lx lz rx rz)

-- ---- words that are written from the front, each the exclusive or of two

pub word_more : (n : ℕ) (a b o₀ o : List ℕ) (i : ℕ) → length a ≡ n → length b ≡ n → length o₀ ≡ n → i < n
    → o ≡ take i (xors a b) ++ drop i o₀ → set o i (bit_xor (get_or a i 0) (get_or b i 0)) ≡ take (i + 1) (xors a b) ++ drop (i + 1) o₀
word_more n a b o₀ o i ha hb ho h e =
    let l : length (xors a b) ≡ n = length-xors a b (hb ∙ sym ha) ∙ ha in
    ap₂ (λ (u : List ℕ) (v : ℕ). set u i v) e (sym (get_or-xors a b i (hb ∙ sym ha))) ∙ front-more (xors a b) o₀ i (omega arith) (omega arith)

pub all_of : (n : ℕ) (a b o₀ o : List ℕ) (i : ℕ) → length a ≡ n → length b ≡ n → length o₀ ≡ n → i ≡ n → o ≡ take i (xors a b) ++ drop i o₀ → o ≡ xors a b
all_of n a b o₀ o i ha hb ho h e =
    let l : length (xors a b) ≡ n = length-xors a b (hb ∙ sym ha) ∙ ha in
    e ∙ ap (λ (n : ℕ). take n (xors a b) ++ drop n o₀) (h ∙ sym l) ∙ front-all (xors a b) o₀ (l ∙ sym ho)

-- ---- the sums of a row's product, i words done: n clashes are counted, and f holds the bits turned at each 3

pub record Adding (lx lz rx rz : List ℕ) (n f i : ℕ) : Type 0 where
  pub number : (n + to-come clash lx lz rx rz i) % 65536 ≡ clashes (unpack lx lz) (unpack rx rz) % 65536
  pub exponent : (n + 2 * ones f + to-come phase lx lz rx rz i) % 4 ≡ phases (unpack lx lz) (unpack rx rz) % 4

number_more : (n c t : ℕ) → ((n + c) % 2 ^ 64 + t) % 65536 ≡ (n + (c + t)) % 65536
number_more n c t = omega arith

exponent-more : (n c p f g t : ℕ) → (2 * g + c) % 4 ≡ (2 * f + p) % 4 → ((n + c) % 2 ^ 64 + 2 * g + t) % 4 ≡ (n + 2 * f + (p + t)) % 4
exponent-more n c p f g t e = omega arith

module _ (lx lz rx rz : List ℕ) where
  pub adding-none : Adding lx lz rx rz 0 0 0
  unfolding ones ones_in
  adding-none =
      record {
        number = ap (λ (n : ℕ). n % 65536) (zero-add (to-come clash lx lz rx rz 0));
        exponent = ap (λ (n : ℕ). n % 4) (zero-add (to-come phase lx lz rx rz 0));
      }

  pub adding-more : {n f i : ℕ} (n' f' : ℕ) → Adding lx lz rx rz n f i → i < shortest₄ lx lz rx rz
      → n' ≡ (n + clashes (word 64 (get_or lx i 0) (get_or lz i 0)) (word 64 (get_or rx i 0) (get_or rz i 0))) % 2 ^ 64
      → (2 * ones f' + clashes (word 64 (get_or lx i 0) (get_or lz i 0)) (word 64 (get_or rx i 0) (get_or rz i 0))) % 4 ≡ (2 * ones f + phases (word 64 (get_or lx i 0) (get_or lz i 0)) (word 64 (get_or rx i 0) (get_or rz i 0))) % 4
      → Adding lx lz rx rz n' f' (i + 1)
  adding-more {n} {f} {i} n' f' s h en ef =
      let a = word 64 (get_or lx i 0) (get_or lz i 0) in
      let b = word 64 (get_or rx i 0) (get_or rz i 0) in
      let one : (v : Pauli → Pauli → ℕ) → to-come v lx lz rx rz i ≡ total v a b + to-come v lx lz rx rz (i + 1) =
      λ v. to-come-more v lx lz rx rz i (omega arith) (omega arith) (omega arith) (omega arith) in
      record {
        number =
            ap (λ (k : ℕ). (k + to-come clash lx lz rx rz (i + 1)) % 65536) en
            ∙ number_more n (clashes a b) (to-come clash lx lz rx rz (i + 1))
            ∙ ap (λ (k : ℕ). (n + k) % 65536) (sym (one clash)) ∙ s.number;
        exponent =
            ap (λ (k : ℕ). (k + 2 * ones f' + to-come phase lx lz rx rz (i + 1)) % 4) en
            ∙ exponent-more n (clashes a b) (phases a b) (ones f) (ones f') (to-come phase lx lz rx rz (i + 1)) ef
            ∙ ap (λ (k : ℕ). (n + 2 * ones f + k) % 4) (sym (one phase)) ∙ s.exponent;
      }

  pub adding-all : {n f i : ℕ} {r : Factor} → Adding lx lz rx rz n f i → shortest₄ lx lz rx rz ≤ i → r.phase.0 ≡ (n + 2 * ones f) % 4 → r.clashes ≡ n % 65536
      → FactorOf (unpack lx lz) (unpack rx rz) r
  adding-all {n} {f} {i} s h ee en =
      record {
        exponent = omega (arith, to-come-none phase lx lz rx rz i h, s.exponent);
        number = omega (arith, to-come-none clash lx lz rx rz i h, s.number);
      }

-- ---- the loop of a row's product, i words done

pub record Done (lx lz rx rz ox₀ oz₀ ox oz : List ℕ) (n f i : ℕ) : Type 0 where
  pub x-words : ox ≡ take i (xors lx rx) ++ drop i ox₀
  pub z-words : oz ≡ take i (xors lz rz) ++ drop i oz₀
  pub sums : Adding lx lz rx rz n f i

module _ {lx lz rx rz ox₀ oz₀ : List ℕ} (s : SameLength (length lx) lx lz rx rz ox₀ oz₀) where
  pub done_none : Done lx lz rx rz ox₀ oz₀ ox₀ oz₀ 0 0 0
  done_none = record { x-words = refl; z-words = refl; sums = adding-none lx lz rx rz }

  pub done_more : {ox oz : List ℕ} {n f i : ℕ} (n' f' : ℕ) → Done lx lz rx rz ox₀ oz₀ ox oz n f i → i < length lx
      → n' ≡ (n + clashes (word 64 (get_or lx i 0) (get_or lz i 0)) (word 64 (get_or rx i 0) (get_or rz i 0))) % 2 ^ 64
      → (2 * ones f' + clashes (word 64 (get_or lx i 0) (get_or lz i 0)) (word 64 (get_or rx i 0) (get_or rz i 0))) % 4 ≡ (2 * ones f + phases (word 64 (get_or lx i 0) (get_or lz i 0)) (word 64 (get_or rx i 0) (get_or rz i 0))) % 4
      → Done lx lz rx rz ox₀ oz₀ (set ox i (bit_xor (get_or lx i 0) (get_or rx i 0))) (set oz i (bit_xor (get_or lz i 0) (get_or rz i 0))) n' f' (i + 1)
  done_more {ox} {oz} {n} {f} {i} n' f' d h en ef =
      record {
        x-words = word_more (length lx) lx rx ox₀ ox i refl s.in-rx s.in-ox h d.x-words;
        z-words = word_more (length lx) lz rz oz₀ oz i s.in-lz s.in-rz s.in-oz h d.z-words;
        sums = adding-more lx lz rx rz n' f' d.sums (omega (arith, s.in-lz, s.in-rx, s.in-rz)) en ef;
      }

  pub done_all : {ox oz : List ℕ} {n f i : ℕ} {r : Factor} → Done lx lz rx rz ox₀ oz₀ ox oz n f i → i ≡ length lx → Fit lx → Fit lz → Fit rx → Fit rz
      → r.phase.0 ≡ (n + 2 * ones f) % 4 → r.clashes ≡ n % 65536 → Product lx lz rx rz ox oz r
  done_all {ox} {oz} {n} {f} {i} d end f₁ f₂ f₃ f₄ ee en =
      record {
        x-words = all_of (length lx) lx rx ox₀ ox i refl s.in-rx s.in-ox end d.x-words ∙ packed-x lx lz rx rz s.in-lz s.in-rx s.in-rz f₁ f₃;
        z-words = all_of (length lx) lz rz oz₀ oz i s.in-lz s.in-rz s.in-oz end d.z-words ∙ packed-z lx lz rx rz s.in-lz s.in-rx s.in-rz f₂ f₄;
        factor = adding-all lx lz rx rz d.sums (omega (arith, s.in-lz, s.in-rx, s.in-rz)) ee en;
      }
