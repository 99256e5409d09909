-- Entries in a lent log: reading what was written, one entry more, one entry after the other. An entry is two units, so that entry i is units 2i and 2i + 1
-- and a last unit without another is none. Assumes nothing.
use Prim.Native.Nat.{ℕ, zero, suc, ◌+◌, ◌/◌, ◌≤◌, ◌<◌}
use native.Mathlib.Numerals.{add-one}
use native.Mathlib.Omega.{arith}
use mathlib.Core.Path.{◌≡◌, refl, sym, ap, ◌∙◌}
use mathlib.Core.List.{List, [], ◌∷◌, ◌++◌, append-nil, head-eq_of_cons-eq}
use lib.ListN.{length, get_or, take, drop, length-drop, take-append-drop}
use lib.Seq.{ext_get_or, get_or-drop, length-take-le, take_at, take-suc, drop-cons}
use Rattle.reduction.specs.Rule.{Entry, entry}
use Rattle.reduction.specs.Log.{pairs, units, logged}

pub pairs-units : (es : List Entry) → pairs (units es) ≡ es
unfolding pairs units
pairs-units [] = refl
pairs-units (e ∷ es) = ap (λ l. e ∷ l) (pairs-units es)

-- a log of k whole entries
pub units-pairs : (k : ℕ) (l : List ℕ) → length l ≡ k + k → units (pairs l) ≡ l
unfolding pairs units
units-pairs zero [] h = refl
units-pairs zero (x ∷ l) h = absurd (omega arith)
units-pairs (suc k) [] h = absurd (omega arith)
units-pairs (suc k) (x ∷ []) h = absurd (omega arith)
units-pairs (suc k) (x ∷ y ∷ l) h = ap (λ m. x ∷ y ∷ m) (units-pairs k l (omega arith))

pub length_pairs : (l : List ℕ) → length (pairs l) ≡ length l / 2
unfolding pairs
length_pairs [] = refl
length_pairs (x ∷ []) = refl
length_pairs (x ∷ y ∷ l) = omega (arith, length_pairs l)

-- the first k entries
pub length-first : (k : ℕ) (l : List ℕ) → k + k ≤ length l → length (pairs (take (k + k) l)) ≡ k
length-first k l h = omega (arith, length_pairs (take (k + k) l), length-take-le (k + k) l h)

pub length-units : (es : List Entry) → length (units es) ≡ length es + length es
unfolding units
length-units [] = refl
length-units (e ∷ es) = omega (arith, length-units es)

pub pairs-more : (k : ℕ) (l : List ℕ) (a b : ℕ) → length l ≡ k + k → pairs (l ++ (a ∷ b ∷ [])) ≡ pairs l ++ (entry a b ∷ [])
unfolding pairs
pairs-more zero [] a b h = refl
pairs-more zero (x ∷ l) a b h = absurd (omega arith)
pairs-more (suc k) [] a b h = absurd (omega arith)
pairs-more (suc k) (x ∷ []) a b h = absurd (omega arith)
pairs-more (suc k) (x ∷ y ∷ l) a b h = ap (λ m. entry x y ∷ m) (pairs-more k l a b (omega arith))

-- a log whose first k entries are known, and whose other units are as they were
pub logged-is : (k : ℕ) (log old : List ℕ) → k + k ≤ length log → length log ≡ length old → ((j : ℕ) → k + k ≤ j → get_or log j 0 ≡ get_or old j 0)
    → log ≡ logged (pairs (take (k + k) log)) old
unfolding logged
logged-is k log old room long past =
    let n = k + k in
    let front : length (take n log) ≡ n = length-take-le n log room in
    let es : units (pairs (take n log)) ≡ take n log = units-pairs k (take n log) front in
    let rest : drop n log ≡ drop n old
    = ext_get_or 0 (drop n log) (drop n old) (simp length-drop (omega arith)) (λ i h. get_or-drop n log i 0 ∙ past (n + i) (omega arith) ∙ sym (get_or-drop n old i 0)) in
    sym (take-append-drop n log)
    ∙ ap (λ l. take n log ++ l) rest
    ∙ sym (ap (λ l. l ++ drop (length l) old) es ∙ ap (λ m. take n log ++ drop m old) front)

-- the log cut to its entries holds them
pub cut-logged : (es : List Entry) (old : List ℕ) → take (length es + length es) (logged es old) ≡ units es
unfolding logged
cut-logged es old = ap (λ m. take m (units es ++ drop (length (units es)) old)) (sym (length-units es)) ∙ take_at (units es) (drop (length (units es)) old) (length (units es)) refl

-- ---- an entry of a flat log

pair-at : (i : ℕ) (l : List ℕ) (n : ℕ) → n ≡ i + i → suc n < length l → drop i (pairs l) ≡ entry (get_or l n 0) (get_or l (suc n) 0) ∷ drop (suc i) (pairs l)
unfolding pairs
pair-at zero [] n e h = absurd (omega arith)
pair-at zero (x ∷ []) n e h = absurd (omega arith)
pair-at zero (x ∷ y ∷ l) zero e h = refl
pair-at zero (x ∷ y ∷ l) (suc n) e h = absurd (omega arith)
pair-at (suc i) [] n e h = absurd (omega arith)
pair-at (suc i) (x ∷ []) n e h = absurd (omega arith)
pair-at (suc i) (x ∷ y ∷ l) zero e h = absurd (omega arith)
pair-at (suc i) (x ∷ y ∷ l) (suc zero) e h = absurd (omega arith)
pair-at (suc i) (x ∷ y ∷ l) (suc (suc n)) e h = pair-at i l n (omega arith) (omega arith)

pub pairs-at : (l : List ℕ) (i : ℕ) → i < length l / 2 → drop i (pairs l) ≡ entry (get_or l (i + i) 0) (get_or l (i + i + 1) 0) ∷ drop (i + 1) (pairs l)
pairs-at l i h =
    pair-at i l (i + i) refl (omega arith) ∙ ap (λ m. entry (get_or l (i + i) 0) (get_or l m 0) ∷ drop (suc i) (pairs l)) (sym (add-one (i + i)))
    ∙ ap (λ m. entry (get_or l (i + i) 0) (get_or l (i + i + 1) 0) ∷ drop m (pairs l)) (sym (add-one i))

pub pairs_end : (i : ℕ) (l : List ℕ) → length l / 2 ≤ i → drop i (pairs l) ≡ []
unfolding pairs
pairs_end zero [] h = refl
pairs_end zero (x ∷ []) h = refl
pairs_end zero (x ∷ y ∷ l) h = absurd (omega arith)
pairs_end (suc i) [] h = refl
pairs_end (suc i) (x ∷ []) h = refl
pairs_end (suc i) (x ∷ y ∷ l) h = pairs_end i l (omega arith)

pub take_more : (l : List ℕ) (i : ℕ) → i < length l / 2 → take (i + 1) (pairs l) ≡ take i (pairs l) ++ (entry (get_or l (i + i) 0) (get_or l (i + i + 1) 0) ∷ [])
take_more l i h =
    let g : i < length (pairs l) = omega (arith, length_pairs l) in
    ap (λ j. take j (pairs l)) (add-one i) ∙ take-suc (pairs l) i (entry 0 0) g
    ∙ ap (λ e. take i (pairs l) ++ (e ∷ [])) (head-eq_of_cons-eq (sym (drop-cons (pairs l) i (entry 0 0) g) ∙ pairs-at l i h))

pub take-entries : (l : List ℕ) → take (length l / 2) (pairs l) ≡ pairs l
take-entries l =
    let h = length l / 2 in
    sym (append-nil (take h (pairs l))) ∙ ap (λ es. take h (pairs l) ++ es) (sym (pairs_end h l (omega arith))) ∙ take-append-drop h (pairs l)
