-- One row of a set under a gate: what the leaves read and turn is the row conjugated. A row of n qubits is its own list on n qubits, so `conj_row` is `conj`
-- and `sign` of its Paulis; both are given by the bits that were read. Assumes nothing.
use mathlib.Core.Path.{◌≡◌, refl, sym, ap, ap₂, ◌∙◌}
use mathlib.Core.Bool.{Bool, true, false, cond, not, ◌&&◌, beq}
use mathlib.Core.List.{List}
use Prim.Native.Nat.{ℕ, ◌+◌, ◌*◌, ◌%◌, ◌<◌}
use native.Mathlib.Decide.{ℕ_discrete}
use native.Mathlib.Omega.{arith}
use lib.ListN.{length, get_or, set, length-set}
use lib.Seq.{get_or-set_other}
use Rattle.pauli.specs.Matrix.{on_qubits}
use Rattle.pauli.specs.Pauli.{Pauli, of_bits, has_x, has_z}
use Rattle.pauli.specs.declared.PauliMatrix.TheVariants.{I, X, Y, Z}
use Rattle.pauli.specs.declared.QubitNumber.{QubitNumber}
use Rattle.pauli.specs.Row.{Row}
use Rattle.pauli.proofs.OnQubits.{length-on, on_same}
use Rattle.pauli.proofs.RowLaws.{row-eq}
use Rattle.encoding.specs.Limits.{words_of}
use Rattle.encoding.specs.Words.{lay_rows}
use Rattle.encoding.specs.Set.{Mem, mem_of, count, phase_units, exponent_at, lay_exponents, rows_held, rows_of, list, lay_in, lay, Sound}
use Rattle.encoding.proofs.Memory.{mem-eq}
use Rattle.encoding.proofs.Exponents.{laid-long, laid_from, laid-past}
use Rattle.encoding.proofs.Odd.{xorᵇ}
use Rattle.encoding.proofs.WordLaws.{Fit}
use Rattle.gates.specs.Gates.{differ, conj, sign, conj_row}
use Rattle.gates.specs.declared.Gate.{Gate}
use Rattle.gates.specs.declared.Gate.TheVariants as gate
use Rattle.gates.proofs.Conjugate.{length-conj}
use Rattle.one_qubit.specs.Leaves.{with_turned, place_of, turned_pauli, with_pauli, at_row}
use Rattle.one_qubit.proofs.OneRow.{row_here, row_other, list_same, Fine, fine-rows, fine-at, at_same, at_again, sound-laid}
use Rattle.one_qubit.proofs.OneTurn.{xor-none, turned-long}
use Rattle.one_qubit.proofs.View.{x-view, z-view, turn-view}
use Rattle.clifford.specs.Workers.{RowReady, QubitReady, Changed, bit_in, turned_by, turned_both}
use Rattle.clifford.proofs.Signs.{sign-other, sign-here}

-- ---- the bits of one qubit turned, and the sign

module _ (n r q : ℕ) {M : Mem} (d : QubitReady n r q M) (a b s : Bool) {xs' zs' es' : List ℕ} (ex : xs' ≡ with_turned M.xs (place_of n r q) a)
    (ez : zs' ≡ with_turned M.zs (place_of n r q) b) (ee : es' ≡ with_turned M.es (2 * r + 1) s) (fx : Fit xs') (fz : Fit zs') (fe : Fit es') where
  p : Pauli
  p = turned_pauli (get_or (rows_of n M r).ps q I) a b

  laid : mem_of (count M) xs' zs' M.es ≡ lay n (count M) (at_row (rows_of n M) r (with_pauli q p))
  unfolding p
  laid = turn-view n d.sound r q d.row_in d.qubit-in a b ex ez fx fz

  same-paulis : list (count M) (λ k. (at_row (rows_of n M) r (with_pauli q p) k).ps) ≡ list (count M) (λ k. (at_row (rows_of n M) r (turned_by q a b s) k).ps)
  unfolding p
  same-paulis = list_same (count M) _ _ (λ k _. go k (ℕ_discrete k r))
    where
      go : (k : ℕ) → Dec (k ≡ r) → (at_row (rows_of n M) r (with_pauli q p) k).ps ≡ (at_row (rows_of n M) r (turned_by q a b s) k).ps
      go k (yes e) =
          ap (λ (x : Row). x.ps) (row_here (rows_of n M) r (with_pauli q p) k e)
          ∙ ap (λ (j : ℕ). set (rows_of n M k).ps q (turned_pauli (get_or (rows_of n M j).ps q I) a b)) (sym e)
          ∙ ap (λ (x : Row). x.ps) (sym (row_here (rows_of n M) r (turned_by q a b s) k e))
      go k (no ne) = ap (λ (x : Row). x.ps) (row_other (rows_of n M) r (with_pauli q p) k ne) ∙ ap (λ (x : Row). x.ps) (sym (row_other (rows_of n M) r (turned_by q a b s) k ne))

  long : length M.es ≡ phase_units (count M)
  long = laid-long (count M) d.sound.valid.exponents

  exponents : es' ≡ lay_exponents (count M) (λ k. (at_row (rows_of n M) r (turned_by q a b s) k).p)
  unfolding rows_held
  exponents =
      laid_from (count M) (λ k. (at_row (rows_of n M) r (turned_by q a b s) k).p) (ap length ee ∙ turned-long M.es (2 * r + 1) s ∙ long) fe
      (λ k _. ap (λ (l : List ℕ). exponent_at l k) ee ∙ go k (ℕ_discrete k r))
      (λ k h. ap (λ (l : List ℕ). exponent_at l k) ee ∙ sign-other M.es (count M) r s long d.row_in k (λ e. omega (arith, d.row_in)) ∙ laid-past (count M) d.sound.valid.exponents k h)
    where
      go : (k : ℕ) → Dec (k ≡ r) → exponent_at (with_turned M.es (2 * r + 1) s) k ≡ (at_row (rows_of n M) r (turned_by q a b s) k).p
      go k (yes e) =
          ap (exponent_at (with_turned M.es (2 * r + 1) s)) e ∙ sign-here M.es (count M) r s long d.row_in
          ∙ ap (λ (j : ℕ). (exponent_at M.es j + cond s 2 0) % 4) (sym e)
          ∙ sym (ap (λ (x : Row). x.p) (row_here (rows_of n M) r (turned_by q a b s) k e))
      go k (no ne) = sign-other M.es (count M) r s long d.row_in k ne ∙ sym (ap (λ (x : Row). x.p) (row_other (rows_of n M) r (turned_by q a b s) k ne))

  pub turned-row : Changed n r (turned_by q a b s) M (mem_of (count M) xs' zs' es')
  unfolding lay_in
  turned-row =
      mem-eq refl (ap (λ (N : Mem). N.xs) laid ∙ ap (lay_rows has_x (words_of n)) same-paulis) (ap (λ (N : Mem). N.zs) laid ∙ ap (lay_rows has_z (words_of n)) same-paulis) exponents

-- ---- a row conjugated

pub fine-conj : (n : ℕ) (g : Gate) (x : Row) → Fine n (conj_row n g x)
unfolding conj_row
fine-conj n g x = (length-conj n g (on_qubits n x.ps) (length-on n x.ps), omega arith)

conj-is : (n : ℕ) (g : Gate) (x : Row) → length x.ps ≡ n → record { ps = conj g x.ps; p = (x.p + sign g x.ps) % 4 } ≡ conj_row n g x
unfolding conj_row
conj-is n g x e = row-eq (ap (conj g) (sym (on_same n x.ps e))) (ap (λ (l : List Pauli). (x.p + sign g l) % 4) (sym (on_same n x.ps e)))

-- what turning makes of a Pauli, by its bits
xor-differ : (a b : Bool) → xorᵇ a b ≡ differ a b
xor-differ false false = refl
xor-differ false true = refl
xor-differ true false = refl
xor-differ true true = refl

apart : (a b : Bool) → not (beq a b) ≡ differ a b
apart false false = refl
apart false true = refl
apart true false = refl
apart true true = refl

exchanged : (p : Pauli) → turned_pauli p (differ (has_x p) (has_z p)) (differ (has_x p) (has_z p)) ≡ of_bits (has_z p) (has_x p)
exchanged I = refl
exchanged X = refl
exchanged Y = refl
exchanged Z = refl

x-added : (p : Pauli) (b : Bool) → turned_pauli p b false ≡ of_bits (differ (has_x p) b) (has_z p)
x-added p b = ap₂ of_bits (xor-differ (has_x p) b) (xor-none (has_z p))

z-added : (p : Pauli) (b : Bool) → turned_pauli p false b ≡ of_bits (has_x p) (differ (has_z p) b)
z-added p b = ap₂ of_bits (xor-none (has_x p)) (xor-differ (has_z p) b)

-- H and S, where u and v are the bits that were read
module _ (n r : ℕ) (M : Mem) (q : QubitNumber) {u v : Bool} (eu : u ≡ bit_in M.xs (place_of n r q.0)) (ev : v ≡ bit_in M.zs (place_of n r q.0)) where
  both : Sound n M → r < count M → q.0 < n → (u ≡ has_x (get_or (rows_of n M r).ps q.0 I)) × (v ≡ has_z (get_or (rows_of n M r).ps q.0 I))
  both s hr hq = (eu ∙ x-view n s r q.0 hr hq, ev ∙ z-view n s r q.0 hr hq)

  pub h-done : {M' : Mem} → RowReady n r (gate.H q) M → Changed n r (turned_by q.0 (not (beq u v)) (not (beq u v)) (u && v)) M M' → Changed n r (conj_row n (gate.H q)) M M'
  h-done d c =
      let x = rows_of n M r in
      let s = d.ready.sound in
      let p = get_or x.ps q.0 I in
      let e = both s d.row_in d.ready.places.0 in
      c ∙ at_same n (count M) (rows_of n M) r (turned_by q.0 (not (beq u v)) (not (beq u v)) (u && v)) (conj_row n (gate.H q))
      (row-eq
      (ap (set x.ps q.0) (ap (λ (t : Bool). turned_pauli p t t) (apart u v ∙ ap₂ differ e.0 e.1) ∙ exchanged p))
      (ap (λ (t : Bool). (x.p + cond t 2 0) % 4) (ap₂ ◌&&◌ e.0 e.1))
      ∙ conj-is n (gate.H q) x (fine-rows n s r d.row_in).0)

  pub s-done : {M' : Mem} → RowReady n r (gate.S q) M → Changed n r (turned_by q.0 false u (u && v)) M M' → Changed n r (conj_row n (gate.S q)) M M'
  s-done d c =
      let x = rows_of n M r in
      let s = d.ready.sound in
      let p = get_or x.ps q.0 I in
      let e = both s d.row_in d.ready.places.0 in
      c ∙ at_same n (count M) (rows_of n M) r (turned_by q.0 false u (u && v)) (conj_row n (gate.S q))
      (row-eq
      (ap (set x.ps q.0) (ap (turned_pauli p false) e.0 ∙ z-added p (has_x p)))
      (ap (λ (t : Bool). (x.p + cond t 2 0) % 4) (ap₂ ◌&&◌ e.0 e.1))
      ∙ conj-is n (gate.S q) x (fine-rows n s r d.row_in).0)

-- ---- controlled-X: the target is turned first, then the control, with the sign

module _ (n r : ℕ) {M : Mem} (c t : QubitNumber) (d : RowReady n r (gate.CX c t) M) where
  -- after the target
  module _ (a : Bool) {xs' zs' es' : List ℕ} (e : Changed n r (turned_by t.0 a false false) M (mem_of (count M) xs' zs' es')) where
    fine : Fine n (turned_by t.0 a false false (rows_of n M r))
    fine =
        let f = fine-rows n d.ready.sound r d.row_in in
        (length-set (rows_of n M r).ps t.0 (turned_pauli (get_or (rows_of n M r).ps t.0 I) a false) ∙ f.0, omega arith)

    pub control-ready : QubitReady n r c.0 (mem_of (count M) xs' zs' es')
    control-ready =
        let s = d.ready.sound in
        record {
          sound = sound-laid n s (at_row (rows_of n M) r (turned_by t.0 a false false)) (fine-at n (count M) (rows_of n M) r (turned_by t.0 a false false) (fine-rows n s) fine) e;
          row_in = d.row_in;
          qubit-in = d.ready.places.0;
        }

    pub both-turned : {M' : Mem} {s : Bool} (cz tx tz : Bool) → s ≡ (a && (tz && not (not (beq tx cz)))) → Changed n r (turned_by c.0 false tz s) (mem_of (count M) xs' zs' es') M'
        → Changed n r (turned_both c.0 t.0 a cz tx tz) M M'
    both-turned {M'} {s} cz tx tz es e' =
        at_again n d.ready.sound r (turned_by t.0 a false false) (turned_by c.0 false tz s) d.row_in fine e e'
        ∙ at_same n (count M) (rows_of n M) r (λ x. turned_by c.0 false tz s (turned_by t.0 a false false x)) (turned_both c.0 t.0 a cz tx tz)
        (ap (λ (s : Bool). turned_by c.0 false tz s (turned_by t.0 a false false (rows_of n M r))) (es ∙ ap (λ (b : Bool). a && (tz && not b)) (apart tx cz)))

  pub cx-done : {M' : Mem} {cx cz tx tz : Bool} → cx ≡ bit_in M.xs (place_of n r c.0) → cz ≡ bit_in M.zs (place_of n r c.0) → tx ≡ bit_in M.xs (place_of n r t.0)
      → tz ≡ bit_in M.zs (place_of n r t.0) → Changed n r (turned_both c.0 t.0 cx cz tx tz) M M' → Changed n r (conj_row n (gate.CX c t)) M M'
  cx-done {M'} {cx} {cz} {tx} {tz} ea eb ef eg e =
      let x = rows_of n M r in
      let s = d.ready.sound in
      let p = get_or x.ps c.0 I in
      let q = get_or x.ps t.0 I in
      let hc = d.ready.places.0 in
      let ht = d.ready.places.1.1.0 in
      let fa : cx ≡ has_x p = ea ∙ x-view n s r c.0 d.row_in hc in
      let fb : cz ≡ has_z p = eb ∙ z-view n s r c.0 d.row_in hc in
      let ff : tx ≡ has_x q = ef ∙ x-view n s r t.0 d.row_in ht in
      let fg : tz ≡ has_z q = eg ∙ z-view n s r t.0 d.row_in ht in
      let v = turned_pauli q cx false in
      let ev : v ≡ of_bits (differ (has_x q) (has_x p)) (has_z q) = ap (λ (b : Bool). turned_pauli q b false) fa ∙ x-added q (has_x p) in
      let eu : turned_pauli (get_or (set x.ps t.0 v) c.0 I) false tz ≡ of_bits (has_x p) (differ (has_z p) (has_z q)) =
      ap₂ (λ (y : Pauli) (b : Bool). turned_pauli y false b) (get_or-set_other x.ps t.0 c.0 v I d.ready.places.1.0.0) fg ∙ z-added p (has_z q) in
      let sign : (cx && (tz && not (differ tx cz))) ≡ (has_x p && (has_z q && not (differ (has_x q) (has_z p)))) =
      ap₂ ◌&&◌ fa (ap₂ ◌&&◌ fg (ap not (ap₂ differ ff fb))) in
      e ∙ at_same n (count M) (rows_of n M) r (turned_both c.0 t.0 cx cz tx tz) (conj_row n (gate.CX c t))
      (row-eq
      (ap₂ (λ (a b : Pauli). set (set x.ps t.0 a) c.0 b) ev eu)
      (later x.p (cond (cx && (tz && not (differ tx cz))) 2 0) ∙ ap (λ (b : Bool). (x.p + cond b 2 0) % 4) sign)
      ∙ conj-is n (gate.CX c t) x (fine-rows n s r d.row_in).0)
    where
      later : (a b : ℕ) → ((a + 0) % 4 + b) % 4 ≡ (a + b) % 4
      later a b = omega arith
