-- H twice, S four times and controlled-X twice give back every row of n qubits: on the touched qubits by a computed test of images and signs, the
-- others being as they were. Assumes nothing.
use mathlib.Core.Path.{◌≡◌, refl, sym, ap, ◌∙◌, subst}
use mathlib.Core.Bool.{Bool, cond, ◌&&◌}
use mathlib.Core.List.{List, [], ◌∷◌}
use Prim.Native.Nat.{ℕ, zero, suc, ◌+◌, ◌%◌, ◌<◌}
use native.Mathlib.Nat.{suc_inj}
use native.Mathlib.Omega.{arith}
use lib.Dec.{T, eqb, eqb→eq}
use lib.ListN.{length, get_or, set}
use Rattle.pauli.specs.Matrix.{on_qubits}
use Rattle.pauli.specs.Pauli.{Pauli}
use Rattle.pauli.specs.declared.PauliMatrix.TheVariants.{I}
use Rattle.pauli.specs.Row.{Row}
use Rattle.pauli.proofs.Bools.{T-left, T-right}
use Rattle.pauli.proofs.Every.{every_p, at_p}
use Rattle.pauli.proofs.OnQubits.{on_same}
use Rattle.pauli.proofs.RowLaws.{row-eq}
use Rattle.gates.specs.Places.{at, put, Places}
use Rattle.gates.specs.Gates.{Gate, H, S, CX, touched, image, turns, conj, sign, conj_row, order, repeat}
use Rattle.gates.proofs.Spots.{set_twice, put-set, at-put, put-at, length-put, length_at}
use Rattle.gates.proofs.Conjugate.{length-image}
use Rattle.gates.proofs.Kept.{alike, alike→}

-- other Paulis at the same qubits
put-put : (n : ℕ) (l : List Pauli) (ks : List ℕ) (v w : List Pauli) → Places n ks → length v ≡ length ks → length w ≡ length ks → put (put l ks v) ks w ≡ put l ks w
put-put n l [] v w h e f = refl
put-put n l (k ∷ ks) [] w h e f = absurd (omega arith)
put-put n l (k ∷ ks) (p ∷ v) [] h e f = absurd (omega arith)
put-put n l (k ∷ ks) (p ∷ v) (q ∷ w) h e f =
    ap (λ (m : List Pauli). set m k q) (put-set (put l ks v) k p ks w h.1.0 ∙ ap (λ (m : List Pauli). set m k p) (put-put n l ks v w h.1.1 (suc_inj e) (suc_inj f)))
    ∙ set_twice (put l ks w) k p q

-- ---- on the touched qubits

-- what k times bring: 2 for each turned sign
brought : Gate → ℕ → List Pauli → ℕ
brought g zero v = 0
brought g (suc k) v = brought g k v + cond (turns g (repeat k (image g) v)) 2 0

back : Gate → List Pauli → Bool
back g v = alike (repeat (order g) (image g) v) v && eqb (brought g (order g) v % 4) 0

tested : (g : Gate) (ps : List Pauli) → T (back g (at I ps (touched g)))
unfolding back brought repeat
tested (H k) ps = at_p (λ p. back (H k) (p ∷ [])) tt (get_or ps k.0 I)
tested (S k) ps = at_p (λ p. back (S k) (p ∷ [])) tt (get_or ps k.0 I)
tested (CX c t) ps =
    at_p (λ q. back (CX c t) (get_or ps c.0 I ∷ q ∷ [])) (at_p (λ p. every_p (λ q. back (CX c t) (p ∷ q ∷ []))) tt (get_or ps c.0 I)) (get_or ps t.0 I)

-- ---- rows

module _ (n : ℕ) (g : Gate) (h : Places n (touched g)) (l : List Pauli) (el : length l ≡ n) where
  -- the row with the Paulis v at the touched qubits
  with_at : List Pauli → ℕ → Row
  with_at v e = record { ps = put l (touched g) v; p = e }

  step : (v : List Pauli) (e : ℕ) → length v ≡ length (touched g) → conj_row n g (with_at v e) ≡ with_at (image g v) ((e + cond (turns g v) 2 0) % 4)
  unfolding conj_row with_at
  step v e k =
      let ks = touched g in
      let o : on_qubits n (put l ks v) ≡ put l ks v = on_same n (put l ks v) (length-put l ks v ∙ el) in
      let a : at I (put l ks v) ks ≡ v = at-put I l ks v (subst (λ (m : ℕ). Places m ks) (sym el) h) k in
      row-eq
      (ap (conj g) o ∙ ap (λ (x : List Pauli). put (put l ks v) ks (image g x)) a ∙ put-put n l ks v (image g v) h k (length-image g v))
      (ap (λ (x : List Pauli). (e + sign g x) % 4) o ∙ ap (λ (x : List Pauli). (e + cond (turns g x) 2 0) % 4) a)

  long : (k : ℕ) (v : List Pauli) → length v ≡ length (touched g) → length (repeat k (image g) v) ≡ length (touched g)
  unfolding repeat
  long zero v e = e
  long (suc k) v e = length-image g (repeat k (image g) v)

  steps : (k : ℕ) (v : List Pauli) (e : ℕ) → length v ≡ length (touched g) → e < 4
      → repeat k (conj_row n g) (with_at v e) ≡ with_at (repeat k (image g) v) ((e + brought g k v) % 4)
  unfolding repeat brought with_at
  steps zero v e lv small = row-eq refl (omega arith)
  steps (suc k) v e lv small =
      let u = repeat k (image g) v in
      ap (conj_row n g) (steps k v e lv small)
      ∙ step u ((e + brought g k v) % 4) (long k v lv)
      ∙ row-eq refl (sums e (brought g k v) (cond (turns g u) 2 0))
    where
      sums : (e b t : ℕ) → ((e + b) % 4 + t) % 4 ≡ (e + (b + t)) % 4
      sums e b t = omega arith

pub undone : (n : ℕ) (g : Gate) (r : Row) → Places n (touched g) → length r.ps ≡ n → r.p < 4 → repeat (order g) (conj_row n g) r ≡ r
unfolding with_at back
undone n g r h e small =
    let ks = touched g in
    let v = at I r.ps ks in
    let lv = length_at I r.ps ks in
    let t = tested g r.ps in
    let z = eqb→eq (brought g (order g) v % 4) 0 (T-right (alike (repeat (order g) (image g) v) v) (eqb (brought g (order g) v % 4) 0) t) in
    ap (repeat (order g) (conj_row n g)) (row-eq (sym (put-at I r.ps ks)) refl)
    ∙ steps n g h r.ps e (order g) v r.p lv small
    ∙ row-eq (ap (put r.ps ks) (alike→ (repeat (order g) (image g) v) v (T-left (alike (repeat (order g) (image g) v) v) (eqb (brought g (order g) v % 4) 0) t)) ∙ put-at I r.ps ks)
    (omega arith)
