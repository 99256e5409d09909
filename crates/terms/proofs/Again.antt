-- The set that `imul` leaves is accepted again, and the words of row a are the exclusive or of those of rows a and b: it is laid from rows, which has no spare
-- bit and no exponent above 3. Assumes nothing.
use mathlib.Core.Path.{◌≡◌, refl, sym, ap, ◌∙◌}
use mathlib.Core.Bool.{cond}
use Prim.Native.Nat.{ℕ, ◌<◌}
use borrow.Author.Tests.{eq-eqb}
use Rattle.pauli.specs.Pauli.{has_x, has_z}
use Rattle.pauli.specs.Row.{Row, mul_row}
use Rattle.pauli.specs.Rows.{clashes_of}
use Rattle.encoding.specs.Limits.{words_of}
use Rattle.encoding.specs.Words.{pack}
use Rattle.encoding.specs.Set.{row, Mem, count, rows_of, lay, lay_in, Valid}
use Rattle.encoding.specs.Refusals.{set_lines, rows_lines, left_or}
use Rattle.encoding.specs.Ranks.{by_rank}
use Rattle.encoding.proofs.WordLaws.{Fit, xors}
use Rattle.encoding.proofs.Parts.{row-lay-list}
use Rattle.encoding.proofs.Memory.{valid-of, within-limits}
use Rattle.encoding.proofs.Sets.{read-proper, rows_in}
use Rattle.encoding.proofs.Again.{lay-passes}
use Rattle.products.proofs.Xor.{product-x, product-z}
use Rattle.reduction.specs.Rule.{mul_at}
use Rattle.std.specs.Prelude.{Ok}
use Rattle.terms.specs.Calls.{Multiplies}
use Rattle.terms.proofs.Meaning.{given}
use Rattle.terms.proofs.Finished.{proper-mul}

module _ (n a b : ℕ) {M M' : Mem} {d : ℕ} (c : Multiplies n a b M M' (Ok d)) where
  none-fits : by_rank (rows_lines n M a b) ≡ 0
  none-fits = (given (by_rank (rows_lines n M a b)) (clashes_of n (rows_of n M a) (rows_of n M b)) d (sym c.answer)).0

  both : (by_rank (set_lines n M) ≡ 0) × (a < count M) × (b < count M)
  both = rows_in n M a b none-fits

  laid : M' ≡ lay n (count M) (mul_at (mul_row n) (rows_of n M) a b)
  laid = c.rows ∙ ap (λ (f : ℕ). left_or f M (lay n (count M) (mul_at (mul_row n) (rows_of n M) a b))) none-fits

  pub imul-again : by_rank (set_lines n M') ≡ 0
  imul-again =
      let l = within-limits n M both.0 in
      ap (λ (N : Mem). by_rank (set_lines n N)) laid ∙ lay-passes n (count M) (mul_at (mul_row n) (rows_of n M) a b) l.0 l.1 (proper-mul a b both.1 both.2 (read-proper n M both.0))

  module _ (fx : Fit M.xs) (fz : Fit M.zs) (fe : Fit M.es) where
    valid : Valid n (words_of n) M
    valid = valid-of n M fx fz fe both.0

    product : mul_at (mul_row n) (rows_of n M) a b a ≡ mul_row n (rows_of n M a) (rows_of n M b)
    unfolding mul_at
    product = ap (λ t. cond t (mul_row n (rows_of n M a) (rows_of n M b)) (rows_of n M a)) (eq-eqb a a refl)

    pub imul-x : row (words_of n) a M'.xs ≡ xors (row (words_of n) a M.xs) (row (words_of n) b M.xs)
    unfolding lay_in mul_row
    imul-x =
        let w = words_of n in
        ap (λ (N : Mem). row w a N.xs) laid ∙ row-lay-list has_x w (count M) (λ k. (mul_at (mul_row n) (rows_of n M) a b k).ps) a both.1
        ∙ ap (λ (r : Row). pack has_x w r.ps) product
        ∙ product-x n w valid valid a b both.1 both.2 fx fx

    pub imul-z : row (words_of n) a M'.zs ≡ xors (row (words_of n) a M.zs) (row (words_of n) b M.zs)
    unfolding lay_in mul_row
    imul-z =
        let w = words_of n in
        ap (λ (N : Mem). row w a N.zs) laid ∙ row-lay-list has_z w (count M) (λ k. (mul_at (mul_row n) (rows_of n M) a b k).ps) a both.1
        ∙ ap (λ (r : Row). pack has_z w r.ps) product
        ∙ product-z n w valid valid a b both.1 both.2 fz fz
