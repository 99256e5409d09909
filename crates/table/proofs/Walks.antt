-- Look-ups one after another sum the exponents of a word's qubits and of a row's, and nothing is left out: where the bits at n and above are zero, the
-- sum over 2 × (n/2 rounded up) qubits is the sum over all. Assumes nothing.
use mathlib.Core.Path.{◌≡◌, refl, sym, ap, ap₂, ◌∙◌, subst}
use mathlib.Core.List.{List, [], ◌∷◌, ◌++◌}
use Prim.Native.Nat.{ℕ, zero, suc, ◌+◌, ◌-◌, ◌/◌, ◌%◌, ◌<◌, ◌≤◌, zero-le}
use native.Mathlib.Nat.{add-zero, le_of_suc-le-suc, not-suc-le-zero}
use native.Mathlib.Numerals.{add-one}
use native.Mathlib.Omega.{arith}
use native.Mathlib.Decide.{dec_lt}
use lib.ListN.{get_or, take, drop}
use lib.Seq.{take-append-add, take-append-le, drop-cons, get_or-drop}
use Rattle.pauli.specs.Pauli.{Pauli, of_bits, phase, phases}
use Rattle.pauli.specs.declared.PauliMatrix.TheVariants.{I}
use Rattle.pauli.proofs.Lists.{total-append}
use Rattle.encoding.specs.Words.{odd, word, unpack}
use Rattle.encoding.proofs.WordLaws.{length-word}
use Rattle.encoding.proofs.Padding.{Clean, total-take}
use Rattle.products.specs.Leaves.{shortest₄}
use Rattle.products.proofs.RowLaws.{to-come-none}
use Rattle.table.specs.Table.{lookups, summed, table_phase}

-- ---- one word

-- of which k look-ups are to come
abbrev pub ahead : ℕ → ℕ → ℕ → ℕ → ℕ → ℕ
ahead k a b c d = phases (word (k + k) a b) (word (k + k) c d)

-- two qubits, then the rest
two-of : (m a b c d : ℕ) → phases (word (suc (suc m)) a b) (word (suc (suc m)) c d)
    ≡ phases (word 2 a b) (word 2 c d) + phases (word m (a / 2 / 2) (b / 2 / 2)) (word m (c / 2 / 2) (d / 2 / 2))
unfolding word
two-of m a b c d = omega arith

two-more : (k a b c d : ℕ) → ahead (suc k) a b c d ≡ phases (word 2 a b) (word 2 c d) + ahead k (a / 4) (b / 4) (c / 4) (d / 4)
two-more k a b c d =
    ap (λ (n : ℕ). phases (word n a b) (word n c d)) twice
    ∙ two-of (k + k) a b c d
    ∙ ap₂ (λ (l r : List Pauli). phases (word 2 a b) (word 2 c d) + phases l r)
    (ap₂ (word (k + k)) (quarter a) (quarter b)) (ap₂ (word (k + k)) (quarter c) (quarter d))
  where
    twice : suc k + suc k ≡ suc (suc (k + k))
    twice = omega arith

    quarter : (x : ℕ) → x / 2 / 2 ≡ x / 4
    quarter x = omega arith

-- e is the sum so far, and with what is to come it is the goal
pub record Walk (goal left a b c d e : ℕ) : Type 0 where
  pub low : e < 4
  pub rest : (e + ahead left a b c d) % 4 ≡ goal

-- one more summand, taken mod 4
mods : (e r p t g : ℕ) → (e + (p + t)) % 4 ≡ g → r ≡ p % 4 → ((e + r) % 4 + t) % 4 ≡ g
mods e r p t g h q = omega arith

pub walk_more : {left k goal a b c d e : ℕ} (r : ℕ) → Walk goal left a b c d e → left ≡ suc k → r ≡ phases (word 2 a b) (word 2 c d) % 4
    → Walk goal k (a / 4) (b / 4) (c / 4) (d / 4) ((e + r) % 4)
walk_more {left} {k} {goal} {a} {b} {c} {d} {e} r w h q =
    record {
      low = omega arith;
      rest =
          mods e r (phases (word 2 a b) (word 2 c d)) (ahead k (a / 4) (b / 4) (c / 4) (d / 4)) goal
          (ap (λ (n : ℕ). (e + n) % 4) (sym (two-more k a b c d)) ∙ rw h at w.rest) q;
    }

pub walk-all : {left goal a b c d e : ℕ} → Walk goal left a b c d e → left ≡ 0 → e ≡ goal
unfolding word
walk-all {left} {goal} {a} {b} {c} {d} {e} w h =
    let r : (e + ahead 0 a b c d) % 4 ≡ goal = rw h at w.rest in
    omega (arith, w.low, r)

-- ---- a row: the first qubits of a word, and of a word and more

take-word : (m d a b : ℕ) → m ≤ d → take m (word d a b) ≡ word m a b
unfolding word
take-word zero d a b h = refl
take-word (suc m) zero a b h = absurd (not-suc-le-zero h)
take-word (suc m) (suc d) a b h = ap (λ (l : List Pauli). of_bits (odd a) (odd b) ∷ l) (take-word m d (a / 2) (b / 2) (le_of_suc-le-suc h))

cut_in : (m a b : ℕ) (u : List Pauli) → m ≤ 64 → take m (word 64 a b ++ u) ≡ word m a b
cut_in m a b u h = take-append-le m (word 64 a b) u (subst (λ (n : ℕ). m ≤ n) (sym (length-word 64 a b)) h) ∙ take-word m 64 a b h

cut-past : (m a b : ℕ) (u : List Pauli) → take (64 + m) (word 64 a b ++ u) ≡ word 64 a b ++ take m u
cut-past m a b u = ap (λ (n : ℕ). take (n + m) (word 64 a b ++ u)) (sym (length-word 64 a b)) ∙ take-append-add (word 64 a b) u m

-- all k look-ups fall into the next word, or 32 of them do
next-in : (k a b c d : ℕ) (lx lz rx rz : List ℕ) → k ≤ 32
    → summed k (a ∷ lx) (b ∷ lz) (c ∷ rx) (d ∷ rz) ≡ ahead k a b c d + summed 0 lx lz rx rz
unfolding unpack
next-in k a b c d lx lz rx rz h =
    let g : k + k ≤ 64 = omega arith in
    ap₂ phases (cut_in (k + k) a b (unpack lx lz) g) (cut_in (k + k) c d (unpack rx rz) g) ∙ sym (add-zero (ahead k a b c d))

next_past : (m a b c d : ℕ) (lx lz rx rz : List ℕ)
    → summed (32 + m) (a ∷ lx) (b ∷ lz) (c ∷ rx) (d ∷ rz) ≡ ahead 32 a b c d + summed m lx lz rx rz
unfolding unpack
next_past m a b c d lx lz rx rz =
    let g : 32 + m + (32 + m) ≡ 64 + (m + m) = omega arith in
    ap (λ (n : ℕ). phases (take n (word 64 a b ++ unpack lx lz)) (take n (word 64 c d ++ unpack rx rz))) g
    ∙ ap₂ phases (cut-past (m + m) a b (unpack lx lz)) (cut-past (m + m) c d (unpack rx rz))
    ∙ total-append phase (word 64 a b) (take (m + m) (unpack lx lz)) (word 64 c d) (take (m + m) (unpack rx rz)) (length-word 64 a b ∙ sym (length-word 64 c d))

-- the next word takes k of the look-ups that are left: 32, or all
next : (left k a b c d : ℕ) (lx lz rx rz : List ℕ) → k ≤ left → k ≤ 32 → left ≤ k + (left - 32)
    → summed left (a ∷ lx) (b ∷ lz) (c ∷ rx) (d ∷ rz) ≡ ahead k a b c d + summed (left - k) lx lz rx rz
next left k a b c d lx lz rx rz h₁ h₂ h₃ = go (dec_lt left 32)
  where
    go : Dec (left < 32) → summed left (a ∷ lx) (b ∷ lz) (c ∷ rx) (d ∷ rz) ≡ ahead k a b c d + summed (left - k) lx lz rx rz
    go (yes h) =
        let e : left ≡ k = omega arith in
        let z : left - k ≡ 0 = omega arith in
        ap (λ (n : ℕ). summed n (a ∷ lx) (b ∷ lz) (c ∷ rx) (d ∷ rz)) e
        ∙ next-in k a b c d lx lz rx rz h₂
        ∙ ap (λ (n : ℕ). ahead k a b c d + summed n lx lz rx rz) (sym z)
    go (no h) =
        let e : 32 ≡ k = omega arith in
        let z : left ≡ 32 + (left - k) = omega arith in
        ap (λ (n : ℕ). summed n (a ∷ lx) (b ∷ lz) (c ∷ rx) (d ∷ rz)) z
        ∙ next_past (left - k) a b c d lx lz rx rz
        ∙ ap (λ (n : ℕ). ahead n a b c d + summed (left - k) lx lz rx rz) e

-- the first qubits bring no more than all
first-le : (k : ℕ) (l r : List Pauli) → phases (take k l) (take k r) ≤ phases l r
first-le zero l r = zero-le
first-le (suc k) [] r = zero-le
first-le (suc k) (p ∷ l) [] = zero-le
first-le (suc k) (p ∷ l) (q ∷ r) = omega (arith, first-le k l r)

-- i words are done and left look-ups are to come; e is the sum so far, and with what is to come it is the goal
pub record Rowed (goal left e i : ℕ) (lx lz rx rz : List ℕ) : Type 0 where
  pub low : e < 4
  pub rest : (e + summed left (drop i lx) (drop i lz) (drop i rx) (drop i rz)) % 4 ≡ goal

module _ (lx lz rx rz : List ℕ) where
  pub rowed-more : {goal left e i : ℕ} (k r : ℕ) → Rowed goal left e i lx lz rx rz → i < shortest₄ lx lz rx rz
      → k ≤ left → k ≤ 32 → left ≤ k + (left - 32) → r ≡ ahead k (get_or lx i 0) (get_or lz i 0) (get_or rx i 0) (get_or rz i 0) % 4
      → Rowed goal (left - k) ((e + r) % 4) (i + 1) lx lz rx rz
  rowed-more {goal} {left} {e} {i} k r w h h₁ h₂ h₃ q =
      let to-come = summed (left - k) (drop (suc i) lx) (drop (suc i) lz) (drop (suc i) rx) (drop (suc i) rz) in
      record {
        low = omega arith;
        rest =
            ap (λ (j : ℕ). ((e + r) % 4 + summed (left - k) (drop j lx) (drop j lz) (drop j rx) (drop j rz)) % 4) (add-one i)
            ∙ mods e r (ahead k (get_or lx i 0) (get_or lz i 0) (get_or rx i 0) (get_or rz i 0)) to-come goal
            (ap (λ (n : ℕ). (e + n) % 4)
            (sym (next left k (get_or lx i 0) (get_or lz i 0) (get_or rx i 0) (get_or rz i 0) (drop (suc i) lx) (drop (suc i) lz) (drop (suc i) rx) (drop (suc i) rz) h₁ h₂ h₃)
            ∙ back)
            ∙ w.rest) q;
      }
    where
      back : summed left (get_or lx i 0 ∷ drop (suc i) lx) (get_or lz i 0 ∷ drop (suc i) lz) (get_or rx i 0 ∷ drop (suc i) rx) (get_or rz i 0 ∷ drop (suc i) rz)
          ≡ summed left (drop i lx) (drop i lz) (drop i rx) (drop i rz)
      back = rw (drop-cons lx i 0 (omega arith), drop-cons lz i 0 (omega arith), drop-cons rx i 0 (omega arith), drop-cons rz i 0 (omega arith)) refl

  pub rowed-all : {goal left e i : ℕ} → Rowed goal left e i lx lz rx rz → shortest₄ lx lz rx rz ≤ i → e ≡ goal
  rowed-all {goal} {left} {e} {i} w h =
      let most = first-le (left + left) (unpack (drop i lx) (drop i lz)) (unpack (drop i rx) (drop i rz)) in
      omega (arith, w.low, w.rest, most, to-come-none phase lx lz rx rz i h)

  -- nothing is left out: the engine's exponent is the counted one, n odd or even
  pub table_counted : (n : ℕ) → Clean n lx lz → table_phase n lx lz rx rz ≡ phases (unpack lx lz) (unpack rx rz) % 4
  table_counted n h = ap (λ (m : ℕ). m % 4) (sym (total-take phase (λ q. refl) k (unpack lx lz) (unpack rx rz) more))
    where
      k : ℕ
      k = lookups n + lookups n

      more : (j : ℕ) → get_or (drop k (unpack lx lz)) j I ≡ I
      more j =
          let e : k + j ≡ n + (k - n + j) = omega arith in
          get_or-drop k (unpack lx lz) j I
          ∙ ap (λ (j : ℕ). get_or (unpack lx lz) j I) e
          ∙ sym (get_or-drop n (unpack lx lz) (k - n + j) I)
          ∙ h (k - n + j)
