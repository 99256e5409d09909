-- `imul` in the words of RULES 4.9 and 4.18: row a becomes the product of the matrices, no other row changes, and the number says whether the rows commuted.
-- Assumes nothing.
use mathlib.Core.Path.{◌≡◌, refl, sym, ap, ◌∙◌, subst}
use mathlib.Core.Bool.{cond}
use mathlib.Core.Logic.{◌↔◌}
use Prim.Native.Nat.{ℕ, ◌*◌, ◌%◌, ◌≤◌, ◌<◌}
use native.Mathlib.Omega.{arith}
use borrow.Author.Tests.{eq-eqb, ne_eqb}
use Rattle.pauli.specs.Row.{Row, mul_row}
use Rattle.pauli.specs.Rows.{clashes_of}
use Rattle.pauli.specs.Matrix.{times, Same, Commute, Anticommute, row_matrix}
use Rattle.pauli.proofs.Meaning.{row-product, clashes-even, clashes-odd}
use Rattle.pauli.proofs.RowTests.{row-with-itself}
use Rattle.encoding.proofs.Sets.{rows_in, read-proper}
use Rattle.encoding.specs.Limits.{words_of}
use Rattle.encoding.specs.Set.{Mem, count, rows_of, lay}
use Rattle.encoding.specs.Refusals.{rows_lines, answer_or, left_or}
use Rattle.encoding.specs.Ranks.{by_rank}
use Rattle.std.specs.Prelude.{Ok}
use Rattle.encoding.proofs.Faults.{value-is}
use Rattle.encoding.proofs.Memory.{Proper, read-lay}
use Rattle.reduction.specs.Rule.{mul_at}
use Rattle.terms.specs.Calls.{Multiplies}
use Rattle.terms.proofs.Finished.{proper-mul}

-- a number was answered, so nothing was refused
pub given : (f v d : ℕ) → answer_or f v ≡ Ok d → (f ≡ 0) × (v ≡ d)
given = value-is

module _ (n a b : ℕ) {M M' : Mem} {d : ℕ} (c : Multiplies n a b M M' (Ok d)) where
  no-fault : by_rank (rows_lines n M a b) ≡ 0
  no-fault = (given (by_rank (rows_lines n M a b)) (clashes_of n (rows_of n M a) (rows_of n M b)) d (sym c.answer)).0

  -- the number is that of the qubits where the rows, as they were, clash
  pub imul-number : d ≡ clashes_of n (rows_of n M a) (rows_of n M b)
  imul-number = sym (given (by_rank (rows_lines n M a b)) (clashes_of n (rows_of n M a) (rows_of n M b)) d (sym c.answer)).1

  -- even exactly when their matrices commute, odd exactly when they anticommute, and 0 for a row by itself
  pub imul-commuted : Commute n (row_matrix n (rows_of n M a)) (row_matrix n (rows_of n M b)) ↔ (d % 2 ≡ 0)
  imul-commuted =
      subst (λ (k : ℕ). Commute n (row_matrix n (rows_of n M a)) (row_matrix n (rows_of n M b)) ↔ (k % 2 ≡ 0)) (sym imul-number) (clashes-even n (rows_of n M a) (rows_of n M b))

  pub imul-anticommuted : Anticommute n (row_matrix n (rows_of n M a)) (row_matrix n (rows_of n M b)) ↔ (d % 2 ≡ 1)
  imul-anticommuted =
      subst (λ (k : ℕ). Anticommute n (row_matrix n (rows_of n M a)) (row_matrix n (rows_of n M b)) ↔ (k % 2 ≡ 1)) (sym imul-number) (clashes-odd n (rows_of n M a) (rows_of n M b))

  pub imul-itself : a ≡ b → d ≡ 0
  imul-itself e = imul-number ∙ ap (λ (k : ℕ). clashes_of n (rows_of n M a) (rows_of n M k)) (sym e) ∙ row-with-itself n (rows_of n M a)

  inside : (a < count M) × (b < count M)
  inside =
      let p = rows_in n M a b no-fault in
      (p.1, p.2)

  proper : Proper n (count M) (mul_at (mul_row n) (rows_of n M) a b)
  proper =
      let p = rows_in n M a b no-fault in
      proper-mul a b p.1 p.2 (read-proper n M p.0)

  now : (k : ℕ) → k < count M → rows_of n M' k ≡ mul_at (mul_row n) (rows_of n M) a b k
  now k h =
      let wide : n ≤ words_of n * 64 = omega arith in
      ap (λ N. rows_of n N k) (c.rows ∙ ap (λ f. left_or f M (lay n (count M) (mul_at (mul_row n) (rows_of n M) a b))) no-fault)
      ∙ read-lay n (words_of n) (count M) (mul_at (mul_row n) (rows_of n M) a b) wide k h (proper.long k h) (proper.small k h)

  -- row a holds the product, phases and all
  pub imul-row : rows_of n M' a ≡ mul_row n (rows_of n M a) (rows_of n M b)
  unfolding mul_at
  imul-row = now a inside.0 ∙ ap (λ t. cond t (mul_row n (rows_of n M a) (rows_of n M b)) (rows_of n M a)) (eq-eqb a a refl)

  pub imul-meaning : Same n (times n (row_matrix n (rows_of n M a)) (row_matrix n (rows_of n M b))) (row_matrix n (rows_of n M' a))
  imul-meaning = subst (λ (r : Row). Same n (times n (row_matrix n (rows_of n M a)) (row_matrix n (rows_of n M b))) (row_matrix n r)) (sym imul-row) (row-product n (rows_of n M a) (rows_of n M b))

  pub imul-others : (k : ℕ) → k < count M → (k ≡ a → ⊥) → rows_of n M' k ≡ rows_of n M k
  unfolding mul_at
  imul-others k h ne = now k h ∙ ap (λ t. cond t (mul_row n (rows_of n M a) (rows_of n M b)) (rows_of n M k)) (ne_eqb k a ne)
