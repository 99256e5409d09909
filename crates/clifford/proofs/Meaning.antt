-- What a call that is not refused has done, by its contract alone: each row's matrix with its phase before and after, the commutation matrix word for word
-- the same, and the set taken by every call again. A gate several times gives back the set. Assumes nothing.
use mathlib.Core.Path.{◌≡◌, sym, ap, ap₂, ◌∙◌, subst}
use mathlib.Core.Logic.{◌↔◌}
use mathlib.Core.Bool.{Bool, cond}
use mathlib.Core.List.{List, ◌++◌}
use Prim.Native.Nat.{ℕ, zero, suc, ◌*◌, ◌≤◌, ◌<◌}
use native.Mathlib.Omega.{arith}
use lib.ListN.{length}
use Rattle.pauli.specs.Matrix.{times, scaled, Same, row_matrix}
use Rattle.pauli.specs.Row.{Row}
use Rattle.pauli.specs.Rows.{commute}
use Rattle.encoding.specs.Limits.{max_qubits, max_rows, words_of}
use Rattle.encoding.specs.Words.{lay_rows}
use Rattle.encoding.specs.Set.{Mem, count, rows_of, list, lay, Sound}
use Rattle.encoding.specs.Refusals.{least, set_lines, done_or, left_or}
use Rattle.encoding.specs.declared.Refusal.{Refusal}
use Rattle.std.specs.Prelude.{Result, Ok, Err}
use Rattle.encoding.proofs.Again.{lay-passes}
use Rattle.encoding.proofs.Faults.{or-none, done_none}
use Rattle.encoding.proofs.Memory.{within-limits, read-lay, count-lay, lay-back}
use Rattle.encoding.specs.Ranks.{by_rank}
use Rattle.encoding.proofs.Ranks.{joined-fault, Given, answer-refused}
use Rattle.cmpnt_list.proofs.Tests.{matrix-parts}
use Rattle.cmpnt_list.specs.Calls.{matrix_lines, matrix_fault, laid_matrix, commuting, CompatibilityMatrix}
use Rattle.gates.specs.Places.{Places}
use Rattle.gates.specs.Gates.{touched, conj_row, conj_rows, order, repeat}
use Rattle.gates.specs.Matrices.{factor, gate_matrix, inverse_matrix}
use Rattle.gates.specs.declared.Gate.{Gate}
use Rattle.gates.proofs.Conjugate.{row-conjugated}
use Rattle.gates.proofs.Kept.{commute-kept}
use Rattle.gates.proofs.Undo.{undone}
use Rattle.one_qubit.proofs.OneRow.{list_same, lay-same, Fine, fine-rows, sound-laid}
use Rattle.clifford.specs.Calls.{large_qubit, one_qubit_gate, gate_lines, gate_fault, Conjugates}
use Rattle.clifford.proofs.Rows.{fine-conj}
use Rattle.clifford.proofs.Tests.{fault-is, places_of, two_none}

-- ---- what no refusal leaves

module _ (n : ℕ) (M : Mem) (g : Gate) (e : gate_fault n M g ≡ 0) where
  parts : (by_rank (set_lines n M) ≡ 0) × (◌≡◌ {A = ℕ} (cond (large_qubit n g) 6 (cond (one_qubit_gate g) 21 0)) 0)
  parts = or-none (by_rank (set_lines n M)) (cond (large_qubit n g) 6 (cond (one_qubit_gate g) 21 0)) (sym (fault-is n M g) ∙ e)

  pub set-passed : by_rank (set_lines n M) ≡ 0
  set-passed = parts.0

  pub qubits-passed : Places n (touched g)
  qubits-passed = let p = two_none (large_qubit n g) (one_qubit_gate g) parts.1 in places_of n g p.0 p.1

-- ---- one call

module _ (n : ℕ) (g : Gate) {M M' : Mem} (c : Conjugates n g M M' (Ok tt)) where
  pub none-fits : gate_fault n M g ≡ 0
  none-fits = done_none (gate_fault n M g) (sym c.answer)

  pub laid : M' ≡ lay n (count M) (conj_rows n g (rows_of n M))
  laid = c.rows ∙ ap (λ (f : ℕ). left_or f M (lay n (count M) (conj_rows n g (rows_of n M)))) none-fits

  pub places : Places n (touched g)
  places = qubits-passed n M g none-fits

  limits : (n ≤ max_qubits) × (count M ≤ max_rows)
  limits = within-limits n M (set-passed n M g none-fits)

  wide : n ≤ words_of n * 64
  wide = omega arith

  pub count_same : count M' ≡ count M
  count_same = ap count laid ∙ count-lay n (words_of n) (count M) (conj_rows n g (rows_of n M)) wide

  pub rows_are : (k : ℕ) → k < count M → rows_of n M' k ≡ conj_row n g (rows_of n M k)
  rows_are k h =
      ap (λ (N : Mem). rows_of n N k) laid
      ∙ read-lay n (words_of n) (count M) (conj_rows n g (rows_of n M)) wide k h (fine-conj n g (rows_of n M k)).0 (fine-conj n g (rows_of n M k)).1

  -- gate, the old row's matrix and the inverse gate are the new row's matrix, phases included; twice it for H
  pub matrices : (k : ℕ) → k < count M
      → Same n (times n (times n (gate_matrix g) (row_matrix n (rows_of n M k))) (inverse_matrix g)) (scaled (factor g) (row_matrix n (rows_of n M' k)))
  matrices k h =
      subst (λ (x : Row). Same n (times n (times n (gate_matrix g) (row_matrix n (rows_of n M k))) (inverse_matrix g)) (scaled (factor g) (row_matrix n x))) (sym (rows_are k h))
      (row-conjugated n g (rows_of n M k) places)

  -- every call that reads a set takes it
  pub again : by_rank (set_lines n M') ≡ 0
  again =
      ap (λ (N : Mem). by_rank (set_lines n N)) laid
      ∙ lay-passes n (count M) (conj_rows n g (rows_of n M)) limits.0 limits.1
      (record { long = λ k _. (fine-conj n g (rows_of n M k)).0; small = λ k _. (fine-conj n g (rows_of n M k)).1 })

  -- ---- commutation

  pub pairs-kept : (i j : ℕ) → i < count M → j < count M → commute n (rows_of n M' i) (rows_of n M' j) ≡ commute n (rows_of n M i) (rows_of n M j)
  pairs-kept i j hi hj = ap₂ (commute n) (rows_are i hi) (rows_are j hj) ∙ commute-kept n g places (rows_of n M i) (rows_of n M j)

  matrix-fault-kept : (size : ℕ) → matrix_fault n M size ≡ matrix_fault n M' size
  matrix-fault-kept size =
      sym (joined-fault (set_lines n M) (matrix_lines (count M) size) (matrix-parts n M (count M) size))
      ∙ ap₂ least (set-passed n M g none-fits ∙ sym again) (ap (λ (m : ℕ). by_rank (matrix_lines m size)) (sym count_same))
      ∙ joined-fault (set_lines n M') (matrix_lines (count M') size) (matrix-parts n M' (count M') size)

  bits-kept : laid_matrix (count M) (commuting n M) ≡ laid_matrix (count M') (commuting n M')
  bits-kept =
      let m = count M in
      ap (lay_rows (λ (b : Bool). b) (words_of m))
      (list_same m (λ i. list m (commuting n M i)) (λ i. list m (commuting n M' i)) (λ i hi. list_same m (commuting n M i) (commuting n M' i) (λ j hj. sym (pairs-kept i j hi hj))))
      ∙ ap (λ (k : ℕ). laid_matrix k (commuting n M')) (sym count_same)

  -- the commutation matrix before and after is the same, word for word, and so is the answer
  pub matrix-kept : {out out₁ out₂ : List ℕ} {a b : Result Unit Refusal} → CompatibilityMatrix n M out out₁ a → CompatibilityMatrix n M' out out₂ b → (a ≡ b) × (out₁ ≡ out₂)
  matrix-kept {out} d e =
      let f = matrix-fault-kept (length out) in
      (d.answer ∙ ap done_or f ∙ sym e.answer, d.matrix ∙ ap₂ (λ (k : ℕ) (l : List ℕ). left_or k out l) f bits-kept ∙ sym e.matrix)

-- ---- the same gate several times

-- k calls one after the other, all done
abbrev pub Calls : ℕ → ℕ → Gate → Mem → Mem → Type 0
Calls zero n g M M' = M' ≡ M
Calls (suc k) n g M M' = (N : Mem) × (Calls k n g M N × Conjugates n g N M' (Ok tt))

-- the rows that k calls leave
record After (n : ℕ) (g : Gate) (k : ℕ) (M M' : Mem) : Type 0 where
  sound : Sound n M'
  same : count M' ≡ count M
  rows : (i : ℕ) → i < count M → rows_of n M' i ≡ repeat k (conj_row n g) (rows_of n M i)

after : (n : ℕ) (g : Gate) (k : ℕ) {M M' : Mem} → Sound n M → Calls k n g M M' → After n g k M M'
unfolding repeat
after n g zero {M} {M'} s e = record { sound = subst (Sound n) (sym e) s; same = ap count e; rows = λ i _. ap (λ (N : Mem). rows_of n N i) e }
after n g (suc k) {M} {M'} s (N, (d, c)) =
    let a = after n g k s d in
    let fine : (i : ℕ) → i < count N → Fine n (conj_rows n g (rows_of n N) i) = λ i _. fine-conj n g (rows_of n N i) in
    record {
      sound = sound-laid n a.sound (conj_rows n g (rows_of n N)) fine (laid n g c);
      same = count_same n g c ∙ a.same;
      rows = λ i h. rows_are n g c i (subst (λ (j : ℕ). i < j) (sym a.same) h) ∙ ap (conj_row n g) (a.rows i h);
    }

-- H twice, S four times and controlled-X twice give back every word and every phase
pub set_back : (n : ℕ) (g : Gate) {M M' : Mem} → Sound n M → Places n (touched g) → Calls (order g) n g M M' → M' ≡ M
set_back n g {M} {M'} s h d =
    let a = after n g (order g) s d in
    sym (lay-back n (words_of n) a.sound.valid)
    ∙ ap (λ (m : ℕ). lay n m (rows_of n M')) a.same
    ∙ lay-same n (count M) (rows_of n M') (rows_of n M)
    (λ i l. a.rows i l ∙ undone n g (rows_of n M i) h (fine-rows n s i l).0 (fine-rows n s i l).1)
    ∙ lay-back n (words_of n) s.valid

-- ---- refusals, and one outcome

-- number k + 1 is given exactly when its line of the table fits the call and none above it does
pub refused-when : (n : ℕ) (g : Gate) {M M' : Mem} {a : Result Unit Refusal} (k : ℕ) → Conjugates n g M M' a → (a ≡ Err (record { 0 = suc k })) ↔ Given (suc k) (set_lines n M ++ gate_lines n g)
refused-when n g {M} k c =
    let i = answer-refused tt (set_lines n M ++ gate_lines n g) k in
    (λ e. i.0 (sym c.answer ∙ e), λ f. c.answer ∙ i.1 f)

pub conj-clifford-one : {n : ℕ} {g : Gate} {M M₁ M₂ : Mem} {a b : Result Unit Refusal} → Conjugates n g M M₁ a → Conjugates n g M M₂ b → (a ≡ b) × (M₁ ≡ M₂)
conj-clifford-one c d = (c.answer ∙ sym d.answer, c.rows ∙ sym d.rows)
