-- What the calls' contracts say, in document 01's words: of qubits that are set, of counts, and of matrices. Each theorem asks that the call refused
-- nothing, and speaks of the set M that it was lent; the words of M are of 64 bits. Assumes nothing.
use mathlib.Core.Path.{◌≡◌, refl, sym, ap, ap₂, ◌∙◌, subst}
use mathlib.Core.Logic.{◌↔◌}
use mathlib.Core.Bool.{Bool, true, false, ◌||◌}
use mathlib.Core.List.{List}
use Prim.Native.Nat.{ℕ, suc, ◌+◌, ◌-◌, ◌*◌, ◌/◌, ◌%◌, ◌≤◌, ◌<◌}
use native.Mathlib.Nat.{div-add-mod'}
use native.Mathlib.Decide.{ℕ_discrete}
use native.Mathlib.Omega.{arith}
use borrow.Author.Tests.{leb-false}
use lib.Dec.{leb}
use lib.ListN.{length, get_or, take, length-set, get_or-eq_default}
use lib.Seq.{get_or-set_same, get_or-set_other}
use Rattle.pauli.specs.Gauss.{◌⊗◌, ipow}
use Rattle.pauli.specs.Pauli.{Pauli, ◌·◌, turn}
use Rattle.pauli.specs.declared.PauliMatrix.TheVariants.{I, X, Y, Z}
use Rattle.pauli.specs.Row.{Row, mul_row}
use Rattle.pauli.specs.Rows.{phase_of, clashes_of, commute, central, holding, count_of, with_qubit, act_on, act_phase_on}
use Rattle.pauli.specs.Matrix.{times, scaled, Same, Commute, Anticommute, matrix_of, row_matrix, basis, apply}
use Rattle.pauli.proofs.Meaning.{matrix-product, row-product, bare-exactly, commute-iff, clashes-even, clashes-odd, central-iff, count_held, counts-add-up, action}
use Rattle.encoding.specs.Limits.{max_rows, words_of}
use Rattle.encoding.specs.Words.{bit_at}
use Rattle.encoding.specs.Set.{Mem, count, exponent_at, rows_held, rows_of, list, lay, Valid, Sound, state_of, lay_state}
use Rattle.encoding.specs.Refusals.{row_lines, state_lines, too_large, Readable, answer_or, left_or}
use Rattle.encoding.specs.Ranks.{TableLine, by_rank}
use Rattle.encoding.proofs.Faults.{least-none, value-is, done_none}
use Rattle.encoding.proofs.Ranks.{joined-fault, Given, answer-refused}
use Rattle.encoding.proofs.Memory.{row_count, read-lay, valid-lay, count-lay, Proper}
use Rattle.encoding.proofs.Parts.{length-list, get_or-list}
use Rattle.pauli.proofs.Lists.{length-each}
use Rattle.pauli.proofs.OnQubits.{take_same}
use Rattle.pauli.proofs.RowLaws.{pad-mul}
use Rattle.pauli.specs.declared.ComplexSign.{ComplexSign}
use Rattle.std.specs.Prelude.{Ok, Err}
use Rattle.encoding.proofs.BitLaws.{bit-lay}
use Rattle.encoding.proofs.States.{state-long, length-state, state-back}
use Rattle.encoding.proofs.Exponents.{exponent_small}
use Rattle.encoding.proofs.Sets.{read-passes, same-phases}
use Rattle.cmpnt_list.specs.Calls.{phase_or, row_fault, rows_fault, qubit_fault, matrix_fault, pairwise_fault, action_fault, laid_matrix, commuting, pair_rows, pair_numbers, get_qubit, SetQubit, count_in, phase_of_mul, commutes_with, belongs_to_centralizer, CompatibilityMatrix, MulPairwise, ImulState}
use Rattle.cmpnt_list.proofs.OneQubit.{with-here, with-other}
use Rattle.cmpnt_list.proofs.Tests.{Words64, asked_of, pairwise-asked, both_small, state-parts}

-- ---- a call that gives a value refuses nothing, and the value is the definition's

phase-is : (f v e : ℕ) → phase_or f v ≡ Ok (record { 0 = e }) → (f ≡ 0) × (v ≡ e)
phase-is f v e q = let p = value-is f _ _ q in (p.0, ap (λ (x : ComplexSign). x.0) p.1)

-- ---- refusals: the number k + 1 is given exactly when its line of the table fits the call and none before it does

pub got-refused : (p : Pauli) (ls : List TableLine) (k : ℕ) → (answer_or (by_rank ls) p ≡ Err (record { 0 = suc k })) ↔ Given (suc k) ls
got-refused = answer-refused

pub tally-refused : (c : ℕ) (ls : List TableLine) (k : ℕ) → (answer_or (by_rank ls) c ≡ Err (record { 0 = suc k })) ↔ Given (suc k) ls
tally-refused = answer-refused

pub phase-refused : (v : ℕ) (ls : List TableLine) (k : ℕ) → (phase_or (by_rank ls) v ≡ Err (record { 0 = suc k })) ↔ Given (suc k) ls
phase-refused v = answer-refused (record { 0 = v })

pub truth-refused : (b : Bool) (ls : List TableLine) (k : ℕ) → (answer_or (by_rank ls) b ≡ Err (record { 0 = suc k })) ↔ Given (suc k) ls
truth-refused = answer-refused

-- ---- phase_of_mul: matrix(a) matrix(b) is i to the answer times matrix(ab)

pub phase-meaning : (n : ℕ) (M : Mem) (a b e : ℕ) → phase_of_mul n M a b ≡ Ok (record { 0 = e })
    → Same n (times n (matrix_of n (rows_of n M a)) (matrix_of n (rows_of n M b))) (scaled (ipow e) (matrix_of n (mul_row n (rows_of n M a) (rows_of n M b))))
unfolding phase_of_mul
phase-meaning n M a b e q =
    subst (λ (k : ℕ). Same n (times n (matrix_of n (rows_of n M a)) (matrix_of n (rows_of n M b))) (scaled (ipow k) (matrix_of n (mul_row n (rows_of n M a) (rows_of n M b)))))
    (phase-is (rows_fault n M a b) (phase_of n (rows_of n M a) (rows_of n M b)) e q).1 (matrix-product n (rows_of n M a) (rows_of n M b))

-- ---- commutes_with, belongs_to_centralizer: true exactly when the matrices commute

pub commutes-meaning : (n : ℕ) (M : Mem) (a b : ℕ) (t : Bool) → commutes_with n M a b ≡ Ok t
    → (t ≡ true) ↔ Commute n (row_matrix n (rows_of n M a)) (row_matrix n (rows_of n M b))
unfolding commutes_with
commutes-meaning n M a b t q =
    let e = value-is (rows_fault n M a b) (commute n (rows_of n M a) (rows_of n M b)) t q in
    let i = commute-iff n (rows_of n M a) (rows_of n M b) in
    (λ h. i.1 (e.1 ∙ h), λ f. sym e.1 ∙ i.0 f)

pub central-meaning : (n : ℕ) (M : Mem) (r : ℕ) (t : Bool) → belongs_to_centralizer n M r ≡ Ok t
    → (t ≡ true) ↔ ((k : ℕ) → k < count M → Commute n (row_matrix n (rows_of n M r)) (row_matrix n (rows_of n M k)))
unfolding belongs_to_centralizer
central-meaning n M r t q =
    let e = value-is (row_fault n M r) (central n (count M) (rows_of n M) r) t q in
    let i = central-iff n (count M) (rows_of n M) r in
    (λ h. i.0 (e.1 ∙ h), λ f. sym e.1 ∙ i.1 f)

-- ---- count: of the four counts of a row the sum is n, so that of I is n less the others

pub count-meaning : (n : ℕ) (M : Mem) (r i x y z : ℕ) → count_in n M r I ≡ Ok i → count_in n M r X ≡ Ok x → count_in n M r Y ≡ Ok y
    → count_in n M r Z ≡ Ok z → i ≡ n - (x + y + z)
unfolding count_in
count-meaning n M r i x y z ei ex ey ez =
    let R = rows_of n M r in
    let f = row_fault n M r in
    omega (arith, counts-add-up n R, (value-is f (count_of n I R) i ei).1, (value-is f (count_of n X R) x ex).1, (value-is f (count_of n Y R) y ey).1, (value-is f (count_of n Z R) z ez).1)

-- each count is the number of qubits that hold the Pauli
pub count-holding : (n : ℕ) {M : Mem} → Words64 M → (r : ℕ) (p : Pauli) (c : ℕ) → count_in n M r p ≡ Ok c → c ≡ holding p (rows_of n M r).ps
unfolding count_in rows_held
count-holding n {M} w r p c e =
    let t = value-is (row_fault n M r) (count_of n p (rows_of n M r)) c e in
    let g = asked_of n w (too_large (count M) r) t.0 in
    sym t.1 ∙ count_held n p (rows_of n M r) (row_count n (words_of n) g.ready.valid r (leb-false (count M) r g.small))

-- ---- compatibility_matrix: bit j of row i is set exactly when the matrices of rows i and j commute; the spare bits are zero

module _ (n : ℕ) {M : Mem} {out out' : List ℕ} (c : CompatibilityMatrix n M out out' (Ok tt)) where
  matrix-bit : (i j : ℕ) → i < count M → j < words_of (count M) * 64
      → bit_at out' (i * words_of (count M) + j / 64) (j % 64) ≡ get_or (list (count M) (λ j. commuting n M i j)) j false
  matrix-bit i j hi hj =
      let m = count M in
      let f = matrix_fault n M (length out) in
      let z : f ≡ 0 = done_none f (sym c.answer) in
      let hw : j / 64 < words_of m = omega arith in
      ap (λ (o : List ℕ). bit_at o (i * words_of m + j / 64) (j % 64)) (c.matrix ∙ ap (λ (k : ℕ). left_or k out (laid_matrix m (commuting n M))) z)
      ∙ bit-lay (λ (b : Bool). b) false refl (words_of m) m (λ i. list m (λ j. commuting n M i j)) i (j / 64) (j % 64) hi hw (omega arith)
      ∙ ap (λ (k : ℕ). get_or (list m (λ j. commuting n M i j)) k false) (div-add-mod' j 64)

  pub matrix-meaning : (i j : ℕ) → i < count M → j < count M
      → (bit_at out' (i * words_of (count M) + j / 64) (j % 64) ≡ true) ↔ Commute n (row_matrix n (rows_of n M i)) (row_matrix n (rows_of n M j))
  matrix-meaning i j hi hj =
      let e : bit_at out' (i * words_of (count M) + j / 64) (j % 64) ≡ commute n (rows_of n M i) (rows_of n M j) =
      matrix-bit i j hi (omega arith) ∙ get_or-list (count M) (λ j. commuting n M i j) j false hj in
      let k = commute-iff n (rows_of n M i) (rows_of n M j) in
      (λ h. k.1 (sym e ∙ h), λ f. e ∙ k.0 f)

  pub matrix-spare : (i j : ℕ) → i < count M → count M ≤ j → j < words_of (count M) * 64 → bit_at out' (i * words_of (count M) + j / 64) (j % 64) ≡ false
  matrix-spare i j hi lo hi' =
      matrix-bit i j hi hi' ∙ get_or-eq_default (list (count M) (λ j. commuting n M i j)) false (subst (λ (k : ℕ). k ≤ j) (sym (length-list (count M) (λ j. commuting n M i j))) lo)

-- ---- cmpnts_mul_pairwise: the matrix of a row that is written is the product of the matrices of left and right, each with its phase

module _ (n : ℕ) {L R O O' : Mem} {cs cs' : List ℕ} (wl : Words64 L) (wr : Words64 R) (c : MulPairwise n L R O O' cs cs' (Ok tt)) where
  no-fault : pairwise_fault n L R O (length cs) ≡ 0
  no-fault = done_none (pairwise_fault n L R O (length cs)) (sym c.answer)

  pub pairwise-rows : (k : ℕ) → k < count L → rows_of n O' k ≡ mul_row n (rows_of n L k) (rows_of n R k)
  unfolding mul_row rows_held
  pairwise-rows k h =
      let w = words_of n in
      let m = count L in
      let g = pairwise-asked n O (length cs) wl wr no-fault in
      let v = g.left.valid in
      let l = row_count n w v k h in
      let r = row_count n w g.right.valid k (subst (λ (j : ℕ). k < j) (sym c.one-m) h) in
      let p = (rows_of n L k).ps in
      let q = (rows_of n R k).ps in
      ap (λ (N : Mem). rows_of n N k) (c.rows ∙ ap (λ (j : ℕ). left_or j O (lay n m (pair_rows n L R))) no-fault)
      ∙ read-lay n w m (pair_rows n L R) v.wide k h (ap length (pad-mul p q (r ∙ sym l)) ∙ length-each ◌·◌ p q (r ∙ sym l) ∙ l) (omega arith)

  pub pairwise-meaning : (k : ℕ) → k < count L → Same n (times n (row_matrix n (rows_of n L k)) (row_matrix n (rows_of n R k))) (row_matrix n (rows_of n O' k))
  pairwise-meaning k h =
      subst (λ (x : Row). Same n (times n (row_matrix n (rows_of n L k)) (row_matrix n (rows_of n R k))) (row_matrix n x)) (sym (pairwise-rows k h))
      (row-product n (rows_of n L k) (rows_of n R k))

  -- the bare rule of the Rust's `cmpnts_mul_pairwise`, phase(left, right) alone, gives the exponent exactly where the two exponents add up to 0 mod 4
  pub pairwise-bare : (k : ℕ) → k < count L
      → (exponent_at O'.es k ≡ phase_of n (rows_of n L k) (rows_of n R k)) ↔ ((exponent_at L.es k + exponent_at R.es k) % 4 ≡ 0)
  unfolding rows_held
  pairwise-bare k h =
      subst (λ (x : Row). (x.p ≡ phase_of n (rows_of n L k) (rows_of n R k)) ↔ ((exponent_at L.es k + exponent_at R.es k) % 4 ≡ 0)) (sym (pairwise-rows k h))
      (bare-exactly n (rows_of n L k) (rows_of n R k))

  -- number k is that of the qubits where the rows clash: even exactly when their matrices commute, odd exactly when they anticommute
  pub pairwise-number : (k : ℕ) → k < count L → get_or cs' k 0 ≡ clashes_of n (rows_of n L k) (rows_of n R k)
  pairwise-number k h =
      ap (λ (l : List ℕ). get_or l k 0) (c.numbers ∙ ap (λ (j : ℕ). left_or j cs (pair_numbers n L R)) no-fault)
      ∙ get_or-list (count L) (λ k. clashes_of n (rows_of n L k) (rows_of n R k)) k 0 h

  pub pairwise-commuted : (k : ℕ) → k < count L → Commute n (row_matrix n (rows_of n L k)) (row_matrix n (rows_of n R k)) ↔ (get_or cs' k 0 % 2 ≡ 0)
  pairwise-commuted k h =
      subst (λ (d : ℕ). Commute n (row_matrix n (rows_of n L k)) (row_matrix n (rows_of n R k)) ↔ (d % 2 ≡ 0)) (sym (pairwise-number k h))
      (clashes-even n (rows_of n L k) (rows_of n R k))

  pub pairwise-anticommuted : (k : ℕ) → k < count L → Anticommute n (row_matrix n (rows_of n L k)) (row_matrix n (rows_of n R k)) ↔ (get_or cs' k 0 % 2 ≡ 1)
  pairwise-anticommuted k h =
      subst (λ (d : ℕ). Anticommute n (row_matrix n (rows_of n L k)) (row_matrix n (rows_of n R k)) ↔ (d % 2 ≡ 1)) (sym (pairwise-number k h))
      (clashes-odd n (rows_of n L k) (rows_of n R k))

-- ---- imul_state: the new state is the row's action on the old, and the row's matrix applied to its vector is i to the exponent times the new one's

module _ (n : ℕ) {M : Mem} (w : Words64 M) (r : ℕ) {st st' : List ℕ} {e : ℕ} (c : ImulState n M r st st' (Ok (record { 0 = e }))) where
  pub nothing : action_fault n M r st ≡ 0
  nothing = (phase-is (action_fault n M r st) (act_phase_on n (rows_of n M r) (state_of n st)) e (sym c.answer)).0

  pub parts-ok : (row_fault n M r ≡ 0) × (by_rank (state_lines n st) ≡ 0)
  parts-ok =
      least-none (row_fault n M r) (by_rank (state_lines n st)) (joined-fault (row_lines n M r) (state_lines n st) (state-parts n M (too_large (count M) r) st) ∙ nothing)

  row-long : length (rows_of n M r).ps ≡ n
  unfolding rows_held
  row-long = let g = asked_of n w (too_large (count M) r) parts-ok.0 in row_count n (words_of n) g.ready.valid r (leb-false (count M) r g.small)

  old-long : length (state_of n st) ≡ n
  old-long = length-state n st (state-long n st parts-ok.1).0

  pub acted-long : length (act_on n (rows_of n M r) (state_of n st)) ≡ n
  acted-long =
      let t = take n (rows_of n M r).ps in
      let lt : length t ≡ n = ap length (take_same n (rows_of n M r).ps row-long) ∙ row-long in
      length-each turn t (state_of n st) (old-long ∙ sym lt) ∙ lt

  pub state-meaning : state_of n st' ≡ act_on n (rows_of n M r) (state_of n st)
  state-meaning =
      ap (state_of n) (c.state ∙ ap (λ (k : ℕ). left_or k st (lay_state n (act_on n (rows_of n M r) (state_of n st)))) nothing)
      ∙ state-back n (act_on n (rows_of n M r) (state_of n st)) acted-long

  pub action-meaning : (v : List Bool) → length v ≡ n → apply n (matrix_of n (rows_of n M r)) (basis (state_of n st)) v ≡ ipow e ⊗ basis (state_of n st') v
  action-meaning v hv =
      action n (rows_of n M r) (state_of n st) row-long old-long v hv
      ∙ ap₂ (λ (k : ℕ) (s : List Bool). ipow k ⊗ basis s v)
      (phase-is (action_fault n M r st) (act_phase_on n (rows_of n M r) (state_of n st)) e (sym c.answer)).1 (sym state-meaning)

-- ---- set_qubit: the Pauli that was set is read back; every other qubit, every other row and every exponent is as it was

module _ (n : ℕ) {M : Mem} (w : Words64 M) (r q : ℕ) (p : Pauli) {M' : Mem} (c : SetQubit n M r q p M' (Ok tt)) where
  none-fits : qubit_fault n M r q ≡ 0
  none-fits = done_none (qubit_fault n M r q) (sym c.answer)

  asked : Readable n M (too_large (count M) r || too_large n q)
  asked = asked_of n w (too_large (count M) r || too_large n q) none-fits

  numbers : (r < count M) × (q < n)
  numbers = both_small (count M) r n q asked.small

  laid : M' ≡ lay n (count M) (with_qubit (rows_of n M) r q p)
  laid = c.rows ∙ ap (λ (k : ℕ). left_or k M (lay n (count M) (with_qubit (rows_of n M) r q p))) none-fits

  proper : Proper n (count M) (with_qubit (rows_of n M) r q p)
  unfolding rows_held
  proper = record { long = λ k h. long k h (ℕ_discrete k r); small = λ k h. small k (ℕ_discrete k r) }
    where
      long : (k : ℕ) → k < count M → Dec (k ≡ r) → length (with_qubit (rows_of n M) r q p k).ps ≡ n
      long k h (yes e) =
          ap (λ (x : Row). length x.ps) (with-here (rows_of n M) r q p k e)
          ∙ length-set (rows_of n M r).ps q p
          ∙ row_count n (words_of n) asked.ready.valid r numbers.0
      long k h (no ne) = ap (λ (x : Row). length x.ps) (with-other (rows_of n M) r q p k ne) ∙ row_count n (words_of n) asked.ready.valid k h

      small : (k : ℕ) → Dec (k ≡ r) → (with_qubit (rows_of n M) r q p k).p < 4
      small k (yes e) = subst (λ (x : Row). x.p < 4) (sym (with-here (rows_of n M) r q p k e)) (exponent_small M.es r)
      small k (no ne) = subst (λ (x : Row). x.p < 4) (sym (with-other (rows_of n M) r q p k ne)) (exponent_small M.es k)

  -- the rows afterwards
  pub set-rows : (k : ℕ) → k < count M → rows_of n M' k ≡ with_qubit (rows_of n M) r q p k
  set-rows k h =
      ap (λ (N : Mem). rows_of n N k) laid
      ∙ read-lay n (words_of n) (count M) (with_qubit (rows_of n M) r q p) asked.ready.valid.wide k h (proper.long k h) (proper.small k h)

  pub set_here : get_or (rows_of n M' r).ps q I ≡ p
  unfolding rows_held
  set_here =
      ap (λ (x : Row). get_or x.ps q I) (set-rows r numbers.0 ∙ with-here (rows_of n M) r q p r refl)
      ∙ get_or-set_same (rows_of n M r).ps q p I (subst (λ (k : ℕ). q < k) (sym (row_count n (words_of n) asked.ready.valid r numbers.0)) numbers.1)

  pub set-elsewhere : (k j : ℕ) → k < count M → (k ≡ r → j ≡ q → ⊥) → get_or (rows_of n M' k).ps j I ≡ get_or (rows_of n M k).ps j I
  set-elsewhere k j h ne = go (ℕ_discrete k r)
    where
      go : Dec (k ≡ r) → get_or (rows_of n M' k).ps j I ≡ get_or (rows_of n M k).ps j I
      go (yes e) =
          ap (λ (x : Row). get_or x.ps j I) (set-rows k h ∙ with-here (rows_of n M) r q p k e)
          ∙ get_or-set_other (rows_of n M r).ps q j p I (ne e) ∙ ap (λ (i : ℕ). get_or (rows_of n M i).ps j I) (sym e)
      go (no d) = ap (λ (x : Row). get_or x.ps j I) (set-rows k h ∙ with-other (rows_of n M) r q p k d)

  pub set-count : count M' ≡ count M
  set-count = ap count laid ∙ count-lay n (words_of n) (count M) (with_qubit (rows_of n M) r q p) asked.ready.valid.wide

  -- the set is again one that every call takes, and get_qubit gives what was set
  pub set-ready : Sound n M'
  set-ready =
      record {
        valid = subst (Valid n (words_of n)) (sym laid) (valid-lay n (words_of n) (count M) (with_qubit (rows_of n M) r q p) asked.ready.valid.wide proper);
        few-qubits = asked.ready.few-qubits;
        few-rows = subst (λ (k : ℕ). k ≤ max_rows) (sym set-count) asked.ready.few-rows;
      }

  pub set-bytes : M'.es ≡ M.es
  unfolding rows_held
  set-bytes =
      same-phases n (words_of n) set-ready.valid asked.ready.valid set-count
      (λ i h. let l : i < count M = subst (λ (k : ℕ). i < k) set-count h in ap (λ (x : Row). x.p) (set-rows i l) ∙ byte i (ℕ_discrete i r))
    where
      byte : (k : ℕ) → Dec (k ≡ r) → (with_qubit (rows_of n M) r q p k).p ≡ exponent_at M.es k
      byte k (yes e) = ap (λ (x : Row). x.p) (with-here (rows_of n M) r q p k e) ∙ ap (exponent_at M.es) (sym e)
      byte k (no ne) = ap (λ (x : Row). x.p) (with-other (rows_of n M) r q p k ne)

  pub set-then-get : get_qubit n M' r q ≡ Ok p
  unfolding get_qubit answer_or
  set-then-get =
      ap₂ (λ (f : ℕ) (v : Pauli). answer_or f v) (read-passes n M' set-ready (leb (count M') r || leb n q) (ap (λ (k : ℕ). leb k r || leb n q) set-count ∙ asked.small)) set_here
