-- A term's matrix between bra and ket: i to the action's exponent where X = bra XOR ket, and zero elsewhere. So the entry of the whole operator's matrix is
-- the sum over the block. Assumes nothing.
use Rattle.std.proofs.Common.{◌≡◌, ℕ, zero, suc, ◌+◌, ◌*◌, ◌/◌, ◌%◌, ◌^◌, ◌<◌, ◌≤◌, Bool, true, false, cond, ◌&&◌, ◌||◌, eqb, List, ◌∷◌, length, get_or, take, ℤ, sym, refl, ap, ◌∙◌, ap₂, le_of_suc-le-suc, not-suc-le-zero, zero-add, arith, eq-eqb, ne_eqb, eqb-true}
use mathlib.Core.Bool.{beq}
use native.Mathlib.Nat.{mod-mod}
use borrow.Author.Tests.{eqb-false}
use lib.Arith.{lt-one}
use lib.Bits.{bit_xor, xor_lt}
use lib.IntN.{+ℤ_idr}
use Rattle.pauli.specs.Gauss.{Gauss, ◌⊕◌, ◌⊗◌, g0, g1, ipow}
use Rattle.pauli.specs.Matrix.{matrix, same_state}
use Rattle.pauli.specs.Pauli.{Pauli, of_bits, turn_phase, act, act_phase}
use Rattle.pauli.proofs.GaussRing.{by_parts, ipow-mod}
use Rattle.pauli.proofs.Vectors.{⊗-g0, ⊗-g1, column-is}
use Rattle.encoding.specs.Words.{odd, bit, word, bits}
use Rattle.encoding.specs.Ranks.{by_rank}
use Rattle.encoding.proofs.Scan.{none_of}
use Rattle.encoding.proofs.Odd.{xorᵇ, bit-odd, xor-odd, xor-half}
use Rattle.encoding.proofs.WordLaws.{half_lt, back, length-word, length-bits, bits-act, Fit}
use Rattle.mat_elem.specs.Terms.{set_from, term_lines, in_block}
use Rattle.mat_elem.specs.Sums.{exponent_of, step_if, sum_over}
use Rattle.mat_elem.specs.Operator.{term_matrix, state_of, coefficient, operator}
use Rattle.mat_elem.proofs.Bits.{set-none, low_of}
use Rattle.mat_elem.proofs.Faults.{sound}

-- ---- the word of a state, and the state

same_bits : (d a b : ℕ) → a < 2 ^ d → b < 2 ^ d → same_state (bits d a) (bits d b) ≡ eqb a b
unfolding bits
same_bits zero a b ha hb = rw (lt-one ha, lt-one hb)
same_bits (suc d) a b ha hb = ap (λ (t : Bool). beq (odd a) (odd b) && t) (same_bits d (a / 2) (b / 2) (half_lt d ha) (half_lt d hb)) ∙ sym (halves a b)
  where
    halves : (x y : ℕ) → eqb x y ≡ (beq (odd x) (odd y) && eqb (x / 2) (y / 2))
    halves x y = go (odd x) (odd y) (eqb (x / 2) (y / 2)) refl refl refl
      where
        same : (p q : Bool) → odd x ≡ p → odd y ≡ q → p ≡ q → x / 2 ≡ y / 2 → x ≡ y
        same p q e f h k = omega (arith, bit-odd x, bit-odd y, ap bit (e ∙ h ∙ sym f))

        low : (p q : Bool) → odd x ≡ p → odd y ≡ q → (bit p ≡ bit q → ⊥) → x ≡ y → ⊥
        low p q e f n z = n (ap bit (sym e) ∙ ap (λ (k : ℕ). bit (odd k)) z ∙ ap bit f)

        go : (p q h : Bool) → odd x ≡ p → odd y ≡ q → eqb (x / 2) (y / 2) ≡ h → eqb x y ≡ (beq p q && h)
        go true true true e f k = eq-eqb x y (same true true e f refl (eqb-true (x / 2) (y / 2) k))
        go false false true e f k = eq-eqb x y (same false false e f refl (eqb-true (x / 2) (y / 2) k))
        go true true false e f k = ne_eqb x y (λ z. eqb-false (x / 2) (y / 2) k (ap (λ (v : ℕ). v / 2) z))
        go false false false e f k = ne_eqb x y (λ z. eqb-false (x / 2) (y / 2) k (ap (λ (v : ℕ). v / 2) z))
        go true false h e f k = ne_eqb x y (low true false e f (λ z. omega arith))
        go false true h e f k = ne_eqb x y (low false true e f (λ z. omega arith))

-- X takes the ket to the bra exactly when it is bra XOR ket
xor-twice : (p q : Bool) → xorᵇ (xorᵇ p q) q ≡ p
xor-twice false false = refl
xor-twice false true = refl
xor-twice true false = refl
xor-twice true true = refl

xor-back : (d a b : ℕ) → a < 2 ^ d → b < 2 ^ d → bit_xor (bit_xor a b) b ≡ a
xor-back zero a b ha hb = rw (lt-one ha, lt-one hb)
xor-back (suc d) a b ha hb =
    sym (back (bit_xor (bit_xor a b) b))
    ∙ ap₂ (λ (h : ℕ) (o : Bool). h * 2 + bit o)
    (xor-half (bit_xor a b) b ∙ ap (λ (v : ℕ). bit_xor v (b / 2)) (xor-half a b) ∙ xor-back d (a / 2) (b / 2) (half_lt d ha) (half_lt d hb))
    (xor-odd (bit_xor a b) b ∙ ap (λ (o : Bool). xorᵇ o (odd b)) (xor-odd a b) ∙ xor-twice (odd a) (odd b))
    ∙ back a

moves : (d x bra ket : ℕ) → x < 2 ^ d → bra < 2 ^ d → ket < 2 ^ d → eqb (bit_xor x ket) bra ≡ eqb x (bit_xor bra ket)
moves d x bra ket hx hb hk = go (eqb (bit_xor x ket) bra) refl
  where
    go : (b : Bool) → eqb (bit_xor x ket) bra ≡ b → b ≡ eqb x (bit_xor bra ket)
    go true e = sym (eq-eqb x (bit_xor bra ket) (sym (xor-back d x ket hx hk) ∙ ap (λ (v : ℕ). bit_xor v ket) (eqb-true (bit_xor x ket) bra e)))
    go false e = sym (ne_eqb x (bit_xor bra ket) (λ z. eqb-false (bit_xor x ket) bra e (ap (λ (v : ℕ). bit_xor v ket) z ∙ xor-back d bra ket hb hk)))

-- the action's theorem, on words of d qubits
times-basis : (u : Gauss) (b : Bool) → u ⊗ cond b g1 g0 ≡ cond b u g0
times-basis u true = ⊗-g1 u
times-basis u false = ⊗-g0 u

word-entry : (d x z r c : ℕ) → x < 2 ^ d → r < 2 ^ d → c < 2 ^ d
    → matrix (word d x z) (bits d r) (bits d c) ≡ cond (eqb x (bit_xor r c)) (ipow (act_phase (word d x z) (bits d c))) g0
word-entry d x z r c hx hr hc =
    let u = ipow (act_phase (word d x z) (bits d c)) in
    column-is (word d x z) (bits d r) (bits d c) (length-bits d r ∙ sym (length-word d x z)) (length-bits d c ∙ sym (length-word d x z))
    ∙ times-basis u (same_state (act (word d x z) (bits d c)) (bits d r))
    ∙ ap (λ (t : Bool). cond t u g0)
    (ap (λ (s : List Bool). same_state s (bits d r)) (sym (bits-act d x z c)) ∙ same_bits d (bit_xor x c) r (xor_lt d x c hx hc) hr ∙ moves d x r c hx hr hc)

-- ---- the first n qubits of a word

take-word : (n d x z : ℕ) → n ≤ d → take n (word d x z) ≡ word n x z
unfolding word
take-word zero d x z l = refl
take-word (suc n) zero x z l = absurd (not-suc-le-zero l)
take-word (suc n) (suc d) x z l = ap (λ (ps : List Pauli). of_bits (odd x) (odd z) ∷ ps) (take-word n d (x / 2) (z / 2) (le_of_suc-le-suc l))

pub take-bits : (n d r : ℕ) → n ≤ d → take n (bits d r) ≡ bits n r
unfolding bits
take-bits zero d r l = refl
take-bits (suc n) zero r l = absurd (not-suc-le-zero l)
take-bits (suc n) (suc d) r l = ap (λ (bs : List Bool). odd r ∷ bs) (take-bits n d (r / 2) (le_of_suc-le-suc l))

no-phase : (d c : ℕ) → act_phase (word d 0 0) (bits d c) ≡ 0
unfolding word bits
no-phase zero c = refl
no-phase (suc d) c = zero-add (act_phase (word d 0 0) (bits d (c / 2))) ∙ no-phase d (c / 2)

low-phase : (n d x z c : ℕ) → n ≤ d → x < 2 ^ n → z < 2 ^ n → act_phase (word d x z) (bits d c) ≡ act_phase (word n x z) (bits n c)
unfolding word bits
low-phase zero d x z c l hx hz = rw (lt-one hx, lt-one hz) (no-phase d c)
low-phase (suc n) zero x z c l hx hz = absurd (not-suc-le-zero l)
low-phase (suc n) (suc d) x z c l hx hz =
    ap (λ (k : ℕ). turn_phase (of_bits (odd x) (odd z)) (odd c) + k) (low-phase n d (x / 2) (z / 2) (c / 2) (le_of_suc-le-suc l) (half_lt n hx) (half_lt n hz))

-- ---- a term between bra and ket

pub term-entry : (n bra ket x z : ℕ) → n ≤ 64 → bra < 2 ^ n → ket < 2 ^ n → x < 2 ^ n → z < 2 ^ n
    → term_matrix n x z (state_of n bra) (state_of n ket) ≡ cond (eqb x (bit_xor bra ket)) (ipow (exponent_of x z ket)) g0
term-entry n bra ket x z l hb hk hx hz =
    let e = act_phase (word 64 x z) (bits 64 ket) in
    rw (take-word n 64 x z l, take-bits n 64 bra l, take-bits n 64 ket l)
    (word-entry n x z bra ket hx hb hk
    ∙ ap (λ (u : Gauss). cond (eqb x (bit_xor bra ket)) u g0)
    (ap ipow (sym (low-phase n 64 x z ket l hx hz)) ∙ ipow-mod e (e % 4) (sym (mod-mod e 4))))

-- ---- the whole operator

-- coefficient times i to the exponent of the term's action on the ket
abbrev pub adds : List ℕ → List ℕ → List ℤ → List ℤ → ℕ → ℕ → Gauss
adds xs zs re im ket i = coefficient re im i ⊗ ipow (exponent_of (get_or xs i 0) (get_or zs i 0) ket)

plus_none : (s c : Gauss) → s ⊕ (c ⊗ g0) ≡ s
plus_none s c = ap (λ (u : Gauss). s ⊕ u) (⊗-g0 c) ∙ by_parts (+ℤ_idr s.re) (+ℤ_idr s.im)

step : (b : Bool) (s r c u v : Gauss) → s ≡ r → u ≡ cond b v g0 → s ⊕ (c ⊗ u) ≡ step_if b (λ (w : Gauss). w ⊕ (c ⊗ v)) r
step true s r c u v p q = ap₂ (λ (w x : Gauss). w ⊕ (c ⊗ x)) p q
step false s r c u v p q = ap₂ (λ (w x : Gauss). w ⊕ (c ⊗ x)) p q ∙ plus_none r c

module _ (n : ℕ) (xs zs : List ℕ) (re im : List ℤ) (bra ket : ℕ) where
  upto : n ≤ 64 → bra < 2 ^ n → ket < 2 ^ n → ((k : ℕ) → k < length xs → (get_or xs k 0 < 2 ^ n) × (get_or zs k 0 < 2 ^ n)) → (m : ℕ) → m ≤ length xs
      → sum_over (λ i. true) ◌⊕◌ g0 (λ i. coefficient re im i ⊗ term_matrix n (get_or xs i 0) (get_or zs i 0) (state_of n bra) (state_of n ket)) m
      ≡ sum_over (in_block xs (bit_xor bra ket)) ◌⊕◌ g0 (adds xs zs re im ket) m
  unfolding sum_over
  upto l hb hk h zero u = refl
  upto l hb hk h (suc i) u =
      step (eqb (get_or xs i 0) (bit_xor bra ket)) _ _ (coefficient re im i) _ (ipow (exponent_of (get_or xs i 0) (get_or zs i 0) ket)) (upto l hb hk h i (omega arith))
      (term-entry n bra ket (get_or xs i 0) (get_or zs i 0) l hb hk (h i u).0 (h i u).1)

  -- terms, bra and ket of n bits: the entry of the operator's matrix between bra and ket is the sum over the block
  pub entry-low : n ≤ 64 → bra < 2 ^ n → ket < 2 ^ n → ((k : ℕ) → k < length xs → (get_or xs k 0 < 2 ^ n) × (get_or zs k 0 < 2 ^ n))
      → operator n xs zs re im (state_of n bra) (state_of n ket) ≡ sum_over (in_block xs (bit_xor bra ket)) ◌⊕◌ g0 (adds xs zs re im ket) (length xs)
  unfolding operator
  entry-low l hb hk h = upto l hb hk h (length xs) (omega arith)

  -- where nothing is refused
  pub operator-entry : (reals imags : ℕ) → by_rank (term_lines n xs zs reals imags bra ket) ≡ 0 → Fit xs → Fit zs → bra < 2 ^ 64 → ket < 2 ^ 64
      → operator n xs zs re im (state_of n bra) (state_of n ket) ≡ sum_over (in_block xs (bit_xor bra ket)) ◌⊕◌ g0 (adds xs zs re im ket) (length xs)
  operator-entry reals imags e fx fz hb hk =
      let s = sound n xs zs reals imags bra ket e in
      let l = s.shape.most in
      let w = low_of n xs zs (set_from n bra || set_from n ket) l s.low fx fz in
      let b = none_of (set_from n bra) (set_from n ket) w.none_beside in
      entry-low l (set-none n bra l hb b.0) (set-none n ket l hk b.1) (λ k h. (w.x-low k h, w.z-low k (omega (arith, s.shape.z-long))))
