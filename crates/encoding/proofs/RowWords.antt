-- The rows of a set that passed its tests, as its words say them: what a leaf finds in a row's words it finds in the row, since the bits at n and above
-- are zero. Assumes nothing.
use mathlib.Core.Path.{◌≡◌, refl, sym, ap, ap₂, ◌∙◌}
use mathlib.Core.Bool.{Bool, false}
use mathlib.Core.List.{List}
use Prim.Native.Nat.{ℕ, ◌%◌, ◌≤◌, ◌<◌}
use native.Mathlib.Omega.{arith}
use lib.Dec.{eqb}
use lib.ListN.{get_or, take}
use lib.Seq.{take-take, get_or-take}
use Rattle.pauli.specs.Pauli.{Pauli, total, ◌·◌, mul, phase, phases, clash, clashes}
use Rattle.pauli.specs.declared.PauliMatrix.TheVariants.{I}
use Rattle.pauli.specs.Row.{pad_mul}
use Rattle.pauli.specs.Rows.{phase_of, clashes_of, commute}
use Rattle.pauli.proofs.Lists.{each_take}
use Rattle.pauli.proofs.RowLaws.{pad-mul}
use Rattle.pauli.proofs.RowTests.{clashes-le}
use Rattle.encoding.specs.Limits.{max_qubits}
use Rattle.encoding.specs.Words.{unpack, pack}
use Rattle.encoding.specs.Set.{row, Mem, count, rows_held, Valid}
use Rattle.encoding.proofs.Padding.{pack-cut, each-only, total-take}
use Rattle.encoding.proofs.Memory.{clean, row_count}

-- the words of row r of a set hold these Paulis
abbrev pub in_words : ℕ → Mem → ℕ → List Pauli
in_words w M r = unpack (row w r M.xs) (row w r M.zs)

pub first-n : (n w : ℕ) (M : Mem) (r : ℕ) → take n (in_words w M r) ≡ take n (rows_held n w M r).ps
unfolding rows_held
first-n n w M r = sym (take-take n n (in_words w M r) (omega arith))

-- one qubit of a row
pub qubit-is : (n w : ℕ) (M : Mem) (r q : ℕ) → q < n → get_or (in_words w M r) q I ≡ get_or (rows_held n w M r).ps q I
unfolding rows_held
qubit-is n w M r q h = sym (get_or-take n (in_words w M r) q I h)

module _ (n w : ℕ) {M : Mem} (v : Valid n w M) (N : Mem) where
  row-total : (f : Pauli → Pauli → ℕ) → ((q : Pauli) → f I q ≡ 0) → (a b : ℕ) → a < count M
      → total f (in_words w M a) (in_words w N b) ≡ total f (take n (rows_held n w M a).ps) (take n (rows_held n w N b).ps)
  row-total f none a b h = total-take f none n (in_words w M a) (in_words w N b) (clean n w v a h) ∙ ap₂ (total f) (first-n n w M a) (first-n n w N b)

  pub phase-is : (a b : ℕ) → a < count M → phases (in_words w M a) (in_words w N b) % 4 ≡ phase_of n (rows_held n w M a) (rows_held n w N b)
  phase-is a b h = ap (λ (k : ℕ). k % 4) (row-total phase (λ q. refl) a b h)

  pub clashes-is : (a b : ℕ) → a < count M → clashes (in_words w M a) (in_words w N b) ≡ clashes_of n (rows_held n w M a) (rows_held n w N b)
  clashes-is a b h = row-total clash (λ q. refl) a b h

  -- within the limits the number fits 16 bits
  pub clashes-fit : n ≤ max_qubits → (a b : ℕ) → a < count M → clashes (in_words w M a) (in_words w N b) % 65536 ≡ clashes_of n (rows_held n w M a) (rows_held n w N b)
  clashes-fit l a b h =
      let le = clashes-le n (rows_held n w M a).ps (rows_held n w N b).ps in
      ap (λ (k : ℕ). k % 65536) (clashes-is a b h) ∙ small (clashes_of n (rows_held n w M a) (rows_held n w N b)) (omega arith)
    where
      small : (k : ℕ) → k ≤ max_qubits → k % 65536 ≡ k
      small k l = omega arith

  pub commute-is : (a b : ℕ) → a < count M → eqb (clashes (in_words w M a) (in_words w N b) % 2) 0 ≡ commute n (rows_held n w M a) (rows_held n w N b)
  unfolding commute
  commute-is a b h = ap (λ (k : ℕ). eqb (k % 2) 0) (clashes-is a b h)

  -- the product of two rows, packed
  pub product_is : Valid n w N → (f : Pauli → Bool) → f I ≡ false → (a b : ℕ) → a < count M → b < count N
      → pack f w (mul (in_words w M a) (in_words w N b)) ≡ pack f w (pad_mul (rows_held n w M a).ps (rows_held n w N b).ps)
  unfolding rows_held
  product_is u f f0 a b h g =
      let A = in_words w M a in
      let B = in_words w N b in
      sym (pack-cut f I f0 w n (mul A B) (each-only ◌·◌ I I I refl n A B (clean n w v a h) (clean n w u b g)))
      ∙ ap (pack f w) (each_take ◌·◌ n A B ∙ sym (pad-mul (take n A) (take n B) (row_count n w u b g ∙ sym (row_count n w v a h))))
