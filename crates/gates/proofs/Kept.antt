-- Products are kept: the conjugate of a product is the product of the conjugates, phases included. On the touched qubits it is a computed test; the
-- others are the same before and after. That commutation is kept follows, phase(b,a) being phase(a,b) with two more for each clash. Assumes nothing.
use mathlib.Core.Path.{◌≡◌, refl, sym, ap, ap₂, ◌∙◌, subst}
use mathlib.Core.Bool.{Bool, true, false, cond, beq, ◌&&◌}
use mathlib.Core.List.{List, [], ◌∷◌}
use Prim.Native.Nat.{ℕ, zero, suc, ◌+◌, ◌*◌, ◌%◌}
use native.Mathlib.Nat.{suc_inj, add_comm}
use native.Mathlib.Omega.{arith}
use lib.Dec.{T, eqb, eqb→eq}
use lib.ListN.{length, get_or, set}
use Rattle.pauli.specs.Matrix.{on_qubits}
use Rattle.pauli.specs.Pauli.{Pauli, of_bits, has_x, has_z, total, ◌·◌, mul, phase, phases, clash, clashes}
use Rattle.pauli.specs.declared.PauliMatrix.TheVariants.{I, X, Y, Z}
use Rattle.pauli.specs.Row.{Row, pad_mul, mul_row, eq_p}
use Rattle.pauli.specs.Rows.{clashes_of, commute}
use Rattle.pauli.proofs.Bools.{T-left, T-right}
use Rattle.pauli.proofs.Every.{every_p, at_p}
use Rattle.pauli.proofs.OnQubits.{length-on, take_same, on-mul, total-on}
use Rattle.pauli.proofs.Phases.{phases-swap, mul_comm}
use Rattle.pauli.proofs.RowLaws.{phase-I, both_of, pad-at, pad-mul, row-eq}
use Rattle.gates.specs.Places.{at, put, blank, Places}
use Rattle.gates.specs.Gates.{Gate, H, S, CX, touched, image, turns, conj, sign, conj_row}
use Rattle.gates.proofs.Spots.{at-put, blank-put, get_or-blank}
use Rattle.gates.proofs.Conjugate.{length-image, length-conj}

-- ---- sums over two rows, told apart at some qubits

module _ (v : Pauli → Pauli → ℕ) (left : (q : Pauli) → v I q ≡ 0) (right : (p : Pauli) → v p I ≡ 0) where
  apart : (ps qs : List Pauli) (k : ℕ) → total v ps qs ≡ v (get_or ps k I) (get_or qs k I) + total v (set ps k I) (set qs k I)
  apart [] qs k = omega (arith, left (get_or qs k I))
  apart (p ∷ ps) [] zero = omega (arith, right p)
  apart (p ∷ ps) [] (suc k) = omega (arith, right (get_or ps k I))
  apart (p ∷ ps) (q ∷ qs) zero = omega (arith, left I)
  apart (p ∷ ps) (q ∷ qs) (suc k) = omega (arith, apart ps qs k)

  split : (n : ℕ) (ks : List ℕ) (ps qs : List Pauli) → Places n ks
      → total v ps qs ≡ total v (at I ps ks) (at I qs ks) + total v (blank I ps ks) (blank I qs ks)
  split n [] ps qs h = omega arith
  split n (k ∷ ks) ps qs h =
      let e : v (get_or (blank I ps ks) k I) (get_or (blank I qs ks) k I) ≡ v (get_or ps k I) (get_or qs k I)
      = ap₂ v (get_or-blank I I ps k ks h.1.0) (get_or-blank I I qs k ks h.1.0) in
      omega (arith, split n ks ps qs h.1.1, apart (blank I ps ks) (blank I qs ks) k, e)

-- ---- products at some qubits

at_mul : (a b : List Pauli) (ks : List ℕ) → length b ≡ length a → at I (mul a b) ks ≡ mul (at I a ks) (at I b ks)
at_mul a b [] e = refl
at_mul a b (k ∷ ks) e =
    ap₂ (λ (p : Pauli) (l : List Pauli). p ∷ l) (ap (λ (l : List Pauli). get_or l k I) (sym (pad-mul a b e)) ∙ pad-at a b k) (at_mul a b ks e)

set-mul : (a b : List Pauli) (k : ℕ) (p q : Pauli) → set (mul a b) k (p · q) ≡ mul (set a k p) (set b k q)
set-mul [] b k p q = refl
set-mul (x ∷ a) [] zero p q = refl
set-mul (x ∷ a) [] (suc k) p q = refl
set-mul (x ∷ a) (y ∷ b) zero p q = refl
set-mul (x ∷ a) (y ∷ b) (suc k) p q = ap (λ (l : List Pauli). x · y ∷ l) (set-mul a b k p q)

put-mul : (a b : List Pauli) (ks : List ℕ) (v w : List Pauli) → length w ≡ length v → put (mul a b) ks (mul v w) ≡ mul (put a ks v) (put b ks w)
put-mul a b [] v w e = refl
put-mul a b (k ∷ ks) [] [] e = refl
put-mul a b (k ∷ ks) [] (q ∷ w) e = absurd (omega arith)
put-mul a b (k ∷ ks) (p ∷ v) [] e = absurd (omega arith)
put-mul a b (k ∷ ks) (p ∷ v) (q ∷ w) e =
    ap (λ (l : List Pauli). set l k (p · q)) (put-mul a b ks v w (suc_inj e)) ∙ set-mul (put a ks v) (put b ks w) k p q

-- ---- on the touched qubits, by a test of every two Paulis, or pairs of them

abbrev two : Gate → List Pauli → ℕ
two g v = cond (turns g v) 2 0

beq_t : (a b : Bool) → T (beq a b) → a ≡ b
beq_t true true t = refl
beq_t true false t = absurd t
beq_t false true t = absurd t
beq_t false false t = refl

eq_t : (p q : Pauli) → T (eq_p p q) → p ≡ q
eq_t p q t =
    sym (both_of p)
    ∙ ap₂ of_bits (beq_t (has_x p) (has_x q) (T-left (beq (has_x p) (has_x q)) (beq (has_z p) (has_z q)) t)) (beq_t (has_z p) (has_z q) (T-right (beq (has_x p) (has_x q)) (beq (has_z p) (has_z q)) t))
    ∙ both_of q

-- two lists of the same Paulis
abbrev pub alike : List Pauli → List Pauli → Bool
alike [] [] = true
alike [] (q ∷ w) = false
alike (p ∷ v) [] = false
alike (p ∷ v) (q ∷ w) = eq_p p q && alike v w

pub alike→ : (v w : List Pauli) → T (alike v w) → v ≡ w
alike→ [] [] t = refl
alike→ [] (q ∷ w) t = absurd t
alike→ (p ∷ v) [] t = absurd t
alike→ (p ∷ v) (q ∷ w) t = ap₂ (λ (x : Pauli) (l : List Pauli). x ∷ l) (eq_t p q (T-left (eq_p p q) (alike v w) t)) (alike→ v w (T-right (eq_p p q) (alike v w) t))

images : Gate → List Pauli → List Pauli → Bool
images g v w = alike (image g (mul v w)) (mul (image g v) (image g w))

signs : Gate → List Pauli → List Pauli → Bool
signs g v w = eqb ((phases (image g v) (image g w) + (two g v + two g w)) % 4) ((phases v w + two g (mul v w)) % 4)

both : Gate → List Pauli → List Pauli → Bool
both g v w = images g v w && signs g v w

one_each : (f : Pauli → Pauli → Bool) → T (every_p (λ p. every_p (f p))) → (p q : Pauli) → T (f p q)
one_each f t p q = at_p (f p) (at_p (λ p. every_p (f p)) t p) q

two-each : (f : Pauli → Pauli → Pauli → Pauli → Bool) → T (every_p (λ p. every_p (λ q. every_p (λ r. every_p (f p q r))))) → (p q r s : Pauli) → T (f p q r s)
two-each f t p q r s = one_each (f p q) (one_each (λ p q. every_p (λ r. every_p (f p q r))) t p q) r s

tested : (g : Gate) (a b : List Pauli) → T (both g (at I a (touched g)) (at I b (touched g)))
unfolding both images signs
tested (H k) a b = one_each (λ p q. both (H k) (p ∷ []) (q ∷ [])) tt (get_or a k.0 I) (get_or b k.0 I)
tested (S k) a b = one_each (λ p q. both (S k) (p ∷ []) (q ∷ [])) tt (get_or a k.0 I) (get_or b k.0 I)
tested (CX c t) a b =
    two-each (λ p q r s. both (CX c t) (p ∷ q ∷ []) (r ∷ s ∷ [])) tt (get_or a c.0 I) (get_or a t.0 I) (get_or b c.0 I) (get_or b t.0 I)

-- ---- on n qubits

module _ (n : ℕ) (g : Gate) (h : Places n (touched g)) (a b : List Pauli) (ea : length a ≡ n) (eb : length b ≡ n) where
  ks : List ℕ
  ks = touched g

  v : List Pauli
  v = at I a (touched g)

  w : List Pauli
  w = at I b (touched g)

  image-mul : image g (mul v w) ≡ mul (image g v) (image g w)
  unfolding v w images both
  image-mul = alike→ (image g (mul v w)) (mul (image g v) (image g w)) (T-left (images g v w) (signs g v w) (tested g a b))

  at-product : at I (mul a b) (touched g) ≡ mul v w
  unfolding v w
  at-product = at_mul a b (touched g) (eb ∙ sym ea)

  pub conj-mul : conj g (mul a b) ≡ mul (conj g a) (conj g b)
  unfolding v w
  conj-mul =
      ap (λ (l : List Pauli). put (mul a b) (touched g) (image g l)) at-product
      ∙ ap (put (mul a b) (touched g)) image-mul
      ∙ put-mul a b (touched g) (image g v) (image g w) (length-image g w ∙ sym (length-image g v))

  -- the exponents, sums over the touched qubits and over the others
  pub phases-kept : (phases (conj g a) (conj g b) + (sign g a + sign g b)) % 4 ≡ (phases a b + sign g (mul a b)) % 4
  unfolding v w signs both
  phases-kept =
      let xs = image g v in
      let ys = image g w in
      let here : phases (at I (conj g a) (touched g)) (at I (conj g b) (touched g)) ≡ phases xs ys
      = ap₂ phases (at-put I a (touched g) xs (subst (λ (m : ℕ). Places m (touched g)) (sym ea) h) (length-image g v))
      (at-put I b (touched g) ys (subst (λ (m : ℕ). Places m (touched g)) (sym eb) h) (length-image g w)) in
      let there : phases (blank I (conj g a) (touched g)) (blank I (conj g b) (touched g)) ≡ phases (blank I a (touched g)) (blank I b (touched g))
      = ap₂ phases (blank-put n I a (touched g) xs h) (blank-put n I b (touched g) ys h) in
      let t : (phases xs ys + (two g v + two g w)) % 4 ≡ (phases v w + two g (mul v w)) % 4
      = eqb→eq ((phases xs ys + (two g v + two g w)) % 4) ((phases v w + two g (mul v w)) % 4) (T-right (images g v w) (signs g v w) (tested g a b)) in
      let s : sign g (mul a b) ≡ two g (mul v w) = ap (two g) at-product in
      sums (phases (conj g a) (conj g b)) (phases xs ys) (phases (blank I a (touched g)) (blank I b (touched g))) (two g v + two g w) (phases a b) (phases v w)
      (two g (mul v w)) (sign g (mul a b))
      (split phase (λ q. refl) phase-I n (touched g) (conj g a) (conj g b) h ∙ ap₂ ◌+◌ here there) (split phase (λ q. refl) phase-I n (touched g) a b h) s t
    where
      sums : (c x o t e y u s : ℕ) → c ≡ x + o → e ≡ y + o → s ≡ u → (x + t) % 4 ≡ (y + u) % 4 → (c + t) % 4 ≡ (e + s) % 4
      sums c x o t e y u s p q k l = omega arith

-- ---- rows

module _ (n : ℕ) (g : Gate) (h : Places n (touched g)) where
  -- the conjugate of a product is the product of the conjugates
  pub product-kept : (a b : Row) → conj_row n g (mul_row n a b) ≡ mul_row n (conj_row n g a) (conj_row n g b)
  unfolding conj_row mul_row
  product-kept a b =
      let A = on_qubits n a.ps in
      let B = on_qubits n b.ps in
      let la = length-on n a.ps in
      let lb = length-on n b.ps in
      let ca = length-conj n g A la in
      let cb = length-conj n g B lb in
      let m : on_qubits n (pad_mul a.ps b.ps) ≡ mul A B = on-mul n a.ps b.ps in
      row-eq (ap (conj g) m ∙ conj-mul n g h A B la lb ∙ sym (pad-mul (conj g A) (conj g B) (cb ∙ sym ca)))
      (ap₂ (λ (x y : ℕ). ((a.p + b.p + x) % 4 + y) % 4) (sym (total-on phase (λ q. refl) phase-I n a.ps b.ps)) (ap (sign g) m)
      ∙ sums a.p b.p (phases A B) (sign g (mul A B)) (sign g A) (sign g B) (phases (conj g A) (conj g B)) (phases-kept n g h A B la lb)
      ∙ ap₂ (λ (l k : List Pauli). ((a.p + sign g A) % 4 + (b.p + sign g B) % 4 + phases l k) % 4) (sym (take_same n (conj g A) ca)) (sym (take_same n (conj g B) cb)))
    where
      first : (x y : ℕ) → (x % 4 + y) % 4 ≡ (x + y) % 4
      first x y = omega arith

      pair : (x y z : ℕ) → (x % 4 + y % 4 + z) % 4 ≡ (x + y + z) % 4
      pair x y z = omega arith

      regroup : (p q e s t u f : ℕ) → (f + (t + u)) % 4 ≡ (e + s) % 4 → (p + q + e + s) % 4 ≡ (p + t + (q + u) + f) % 4
      regroup p q e s t u f k = omega arith

      sums : (p q e s t u f : ℕ) → (f + (t + u)) % 4 ≡ (e + s) % 4 → ((p + q + e) % 4 + s) % 4 ≡ ((p + t) % 4 + (q + u) % 4 + f) % 4
      sums p q e s t u f k = first (p + q + e) s ∙ regroup p q e s t u f k ∙ sym (pair (p + t) (q + u) f)

  -- the number of clashes, mod 2
  pub clashes-kept : (a b : Row) → clashes_of n (conj_row n g a) (conj_row n g b) % 2 ≡ clashes_of n a b % 2
  unfolding conj_row
  clashes-kept a b =
      let A = on_qubits n a.ps in
      let B = on_qubits n b.ps in
      let la = length-on n a.ps in
      let lb = length-on n b.ps in
      let ca = length-conj n g A la in
      let cb = length-conj n g B lb in
      ap₂ (λ (l k : List Pauli). clashes l k % 2) (take_same n (conj g A) ca) (take_same n (conj g B) cb)
      ∙ halves (phases (conj g A) (conj g B)) (phases (conj g B) (conj g A)) (clashes (conj g A) (conj g B)) (phases A B) (phases B A) (clashes A B) (sign g A) (sign g B) (sign g (mul A B))
      (phases-swap (conj g A) (conj g B)) (phases-swap A B) (phases-kept n g h A B la lb)
      (phases-kept n g h B A lb la ∙ ap (λ (l : List Pauli). (phases B A + sign g l) % 4) (mul_comm B A))
      ∙ ap (λ (k : ℕ). k % 2) (total-on clash (λ q. refl) clash-I n a.ps b.ps)
    where
      clash-I : (p : Pauli) → clash p I ≡ 0
      clash-I I = refl
      clash-I X = refl
      clash-I Y = refl
      clash-I Z = refl

      more : (x y c k : ℕ) → y % 4 ≡ (x + 2 * c) % 4 → (y + k) % 4 ≡ (x + 2 * c + k) % 4
      more x y c k e = omega arith

      turned : (y s t : ℕ) → (y + (s + t)) % 4 ≡ (y + (t + s)) % 4
      turned y s t = ap (λ (k : ℕ). (y + k) % 4) (add_comm s t)

      other : (x p d k u : ℕ) → (x + k) % 4 ≡ (p + u) % 4 → (p + 2 * d + u) % 4 ≡ (x + k + 2 * d) % 4
      other x p d k u e = omega arith

      last : (x k c d : ℕ) → (x + 2 * c + k) % 4 ≡ (x + k + 2 * d) % 4 → c % 2 ≡ d % 2
      last x k c d e = halve (c % 2) (d % 2) (sym (even c (x + k)) ∙ add x k c ∙ shifted (x + 2 * c + k) (x + k + 2 * d) (3 * (x + k)) e ∙ sym (add' x k d) ∙ even d (x + k))
        where
          even : (c b : ℕ) → (2 * c + 4 * b) % 4 ≡ 2 * (c % 2)
          even c b = omega arith

          halve : (a b : ℕ) → 2 * a ≡ 2 * b → a ≡ b
          halve a b e = omega arith

          shifted : (u v w : ℕ) → u % 4 ≡ v % 4 → (u + w) % 4 ≡ (v + w) % 4
          shifted u v w e = omega arith

          add : (x k c : ℕ) → (2 * c + 4 * (x + k)) % 4 ≡ (x + 2 * c + k + 3 * (x + k)) % 4
          add x k c = omega arith

          add' : (x k d : ℕ) → (2 * d + 4 * (x + k)) % 4 ≡ (x + k + 2 * d + 3 * (x + k)) % 4
          add' x k d = omega arith

      halves : (x y c p q d s t u : ℕ) → y % 4 ≡ (x + 2 * c) % 4 → q % 4 ≡ (p + 2 * d) % 4 → (x + (s + t)) % 4 ≡ (p + u) % 4 → (y + (t + s)) % 4 ≡ (q + u) % 4
          → c % 2 ≡ d % 2
      halves x y c p q d s t u e f k l = last x (s + t) c d (sym (more x y c (s + t) e) ∙ turned y s t ∙ l ∙ more p q d u f ∙ other x p d (s + t) u k)

  -- whether two rows commute
  pub commute-kept : (a b : Row) → commute n (conj_row n g a) (conj_row n g b) ≡ commute n a b
  unfolding commute
  commute-kept a b = ap (λ (k : ℕ). eqb k 0) (clashes-kept a b)
