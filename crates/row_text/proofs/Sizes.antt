-- How long texts are: the digits of a qubit's number by its size, and the longest text by adding up over the qubits. Each Pauli takes at most the
-- piece of its qubit, and all of it where it is not I.
use Rattle.row_text.proofs.Kit.{◌≡◌, refl, sym, ap, ◌∙◌, subst, zero-add, List, [], ◌∷◌, ℕ, zero, suc, ◌+◌, ◌*◌, ◌-◌, ◌/◌, ◌<◌, ◌≤◌, arith, dec_lt, length, length-append, length-drop, Pauli, I, X, Y, Z}
use Rattle.text.specs.Numbers.{numeral}
use Rattle.text.proofs.Writing.{size_small, size-more, length-numeral}
use Rattle.row_text.specs.Text.{spell, spaced, text_of, longest}

pub one-digit : (v : ℕ) → v < 10 → length (numeral 10 v) ≡ 1
one-digit v h = length-numeral 10 v ∙ size_small 10 20 v h

pub two_digits : (v : ℕ) → 10 ≤ v → v < 100 → length (numeral 10 v) ≡ 2
two_digits v h k = length-numeral 10 v ∙ (size-more 10 20 19 v refl h ∙ ap suc (size_small 10 19 (v / 10) (omega arith)))

pub three-digits : (v : ℕ) → 100 ≤ v → v < 1000 → length (numeral 10 v) ≡ 3
three-digits v h k =
    length-numeral 10 v
    ∙ (size-more 10 20 19 v refl (omega arith)
    ∙ ap suc (size-more 10 19 18 (v / 10) refl (omega arith) ∙ ap suc (size_small 10 18 (v / 10 / 10) (omega arith))))

pub four-digits : (v : ℕ) → 1000 ≤ v → v < 10000 → length (numeral 10 v) ≡ 4
four-digits v h k =
    length-numeral 10 v
    ∙ (size-more 10 20 19 v refl (omega arith)
    ∙ ap suc
    (size-more 10 19 18 (v / 10) refl (omega arith)
    ∙ ap suc (size-more 10 18 17 (v / 10 / 10) refl (omega arith) ∙ ap suc (size_small 10 17 (v / 10 / 10 / 10) (omega arith)))))

-- the pieces of the first q qubits
abbrev upto : ℕ → ℕ
upto q = 3 * q + (q - 10) + (q - 100) + (q - 1000)

upto-more : (q : ℕ) → q < 10000 → upto (suc q) ≡ upto q + (2 + length (numeral 10 q))
upto-more q h = go (dec_lt q 10) (dec_lt q 100) (dec_lt q 1000)
  where
    go : Dec (q < 10) → Dec (q < 100) → Dec (q < 1000) → upto (suc q) ≡ upto q + (2 + length (numeral 10 q))
    go (yes a) b c = omega (arith, one-digit q a)
    go (no a) (yes b) c = omega (arith, two_digits q (omega arith) b)
    go (no a) (no b) (yes c) = omega (arith, three-digits q (omega arith) c)
    go (no a) (no b) (no c) = omega (arith, four-digits q (omega arith) h)

spell-size : (q : ℕ) (p : Pauli) → length (spell q p) ≤ 2 + length (numeral 10 q)
spell-size q I = omega arith
spell-size q X = omega arith
spell-size q Y = omega arith
spell-size q Z = omega arith

spaced-size : (q : ℕ) (ps : List Pauli) → q + length ps ≤ 10000 → upto q + length (spaced q ps) ≤ upto (q + length ps)
spaced-size q [] h = let e : upto (q + 0) ≡ upto q = ap upto (let k : q + 0 ≡ q = omega arith in k) in omega arith
spaced-size q (p ∷ ps) h =
    let e : upto (suc q + length ps) ≡ upto (q + suc (length ps)) = ap upto (let k : suc q + length ps ≡ q + suc (length ps) = omega arith in k) in
    omega (arith, e, spaced-size (suc q) ps (omega arith), upto-more q (omega arith), spell-size q p, length-append (spell q p) (spaced (suc q) ps))

one_less : (a b : ℕ) → 0 + a ≤ b → a - 1 ≤ b - 1
one_less a b h = omega arith

-- no text of n qubits is longer
pub at_most : (ps : List Pauli) → length ps ≤ 10000 → length (text_of ps) ≤ longest (length ps)
at_most ps h =
    subst (λ (k : ℕ). k ≤ longest (length ps)) (sym (length-drop 1 (spaced 0 ps)))
    (one_less (length (spaced 0 ps)) (upto (length ps)) (subst (λ (k : ℕ). 0 + length (spaced 0 ps) ≤ upto k) (zero-add (length ps)) (spaced-size 0 ps (omega arith))))

-- and the text of X on every qubit is as long
abbrev pub all-x : ℕ → List Pauli
all-x zero = []
all-x (suc n) = X ∷ all-x n

pub long-all : (n : ℕ) → length (all-x n) ≡ n
long-all zero = refl
long-all (suc n) = ap suc (long-all n)

spaced-all : (q n : ℕ) → q + n ≤ 10000 → upto q + length (spaced q (all-x n)) ≡ upto (q + n)
spaced-all q zero h = let e : upto (q + 0) ≡ upto q = ap upto (let k : q + 0 ≡ q = omega arith in k) in omega arith
spaced-all q (suc n) h =
    let e : upto (suc q + n) ≡ upto (q + suc n) = ap upto (let k : suc q + n ≡ q + suc n = omega arith in k) in
    omega (arith, e, spaced-all (suc q) n (omega arith), upto-more q (omega arith), length-append (spell q X) (spaced (suc q) (all-x n)))

pub as_long : (n : ℕ) → n ≤ 10000 → length (text_of (all-x n)) ≡ longest n
as_long n h =
    length-drop 1 (spaced 0 (all-x n))
    ∙ ap (λ (k : ℕ). k - 1) (sym (zero-add (length (spaced 0 (all-x n)))) ∙ (spaced-all 0 n (omega arith) ∙ ap upto (zero-add n)))
