-- The set that a pairwise product writes and the state that an action leaves are accepted again; their words are the exclusive or of what was lent.
-- Assumes nothing.
use mathlib.Core.Path.{◌≡◌, sym, ap, ◌∙◌, subst}
use mathlib.Core.List.{List}
use Prim.Native.Nat.{ℕ, ◌<◌}
use native.Mathlib.Omega.{arith}
use borrow.Author.Tests.{leb-false}
use lib.ListN.{length}
use Rattle.pauli.specs.Pauli.{has_x, has_z, ◌·◌}
use Rattle.pauli.specs.Row.{mul_row}
use Rattle.pauli.specs.Rows.{act_on}
use Rattle.pauli.proofs.Lists.{length-each}
use Rattle.pauli.proofs.RowLaws.{pad-mul}
use Rattle.encoding.specs.Limits.{words_of}
use Rattle.encoding.specs.Set.{row, Mem, count, rows_held, rows_of, lay, lay_in, state_of, lay_state}
use Rattle.encoding.specs.Refusals.{set_lines, state_lines, too_large, Readable, left_or}
use Rattle.encoding.specs.Ranks.{by_rank}
use Rattle.std.specs.Prelude.{Ok}
use Rattle.encoding.proofs.WordLaws.{Fit, xors}
use Rattle.encoding.proofs.Parts.{row-lay-list}
use Rattle.encoding.proofs.Faults.{done_none}
use Rattle.encoding.proofs.Memory.{Proper, row_count}
use Rattle.encoding.proofs.Again.{lay-passes, state-passes}
use Rattle.products.proofs.Xor.{product-x, product-z, acted-xor}
use Rattle.cmpnt_list.specs.Calls.{pairwise_fault, pair_rows, MulPairwise, ImulState}
use Rattle.cmpnt_list.specs.Workers.{BothReady}
use Rattle.cmpnt_list.proofs.Tests.{Words64, asked_of, pairwise-asked}
use Rattle.cmpnt_list.proofs.Meaning.{nothing, parts-ok, acted-long}

-- ---- cmpnts_mul_pairwise

module _ (n : ℕ) {L R O O' : Mem} {cs cs' : List ℕ} (wl : Words64 L) (wr : Words64 R) (c : MulPairwise n L R O O' cs cs' (Ok tt)) where
  none-fits : pairwise_fault n L R O (length cs) ≡ 0
  none-fits = done_none (pairwise_fault n L R O (length cs)) (sym c.answer)

  both : BothReady n L R
  both = pairwise-asked n O (length cs) wl wr none-fits

  right-in : (k : ℕ) → k < count L → k < count R
  right-in k h = subst (λ (j : ℕ). k < j) (sym c.one-m) h

  laid : O' ≡ lay n (count L) (pair_rows n L R)
  laid = c.rows ∙ ap (λ (k : ℕ). left_or k O (lay n (count L) (pair_rows n L R))) none-fits

  proper : Proper n (count L) (pair_rows n L R)
  unfolding mul_row rows_held
  proper =
      record {
        long = λ k h.
            let l = row_count n (words_of n) both.left.valid k h in
            let r = row_count n (words_of n) both.right.valid k (right-in k h) in
            ap length (pad-mul (rows_of n L k).ps (rows_of n R k).ps (r ∙ sym l)) ∙ length-each ◌·◌ (rows_of n L k).ps (rows_of n R k).ps (r ∙ sym l) ∙ l;
        small = λ k h. omega arith;
      }

  -- every call that reads a set takes the third
  pub pairwise-again : by_rank (set_lines n O') ≡ 0
  pairwise-again = ap (λ (N : Mem). by_rank (set_lines n N)) laid ∙ lay-passes n (count L) (pair_rows n L R) both.left.few-qubits both.left.few-rows proper

  -- its words
  pub pairwise-x : (k : ℕ) → k < count L → row (words_of n) k O'.xs ≡ xors (row (words_of n) k L.xs) (row (words_of n) k R.xs)
  unfolding lay_in mul_row
  pairwise-x k h =
      ap (λ (N : Mem). row (words_of n) k N.xs) laid ∙ row-lay-list has_x (words_of n) (count L) (λ j. (pair_rows n L R j).ps) k h
      ∙ product-x n (words_of n) both.left.valid both.right.valid k k h (right-in k h) wl.x-fit wr.x-fit

  pub pairwise-z : (k : ℕ) → k < count L → row (words_of n) k O'.zs ≡ xors (row (words_of n) k L.zs) (row (words_of n) k R.zs)
  unfolding lay_in mul_row
  pairwise-z k h =
      ap (λ (N : Mem). row (words_of n) k N.zs) laid ∙ row-lay-list has_z (words_of n) (count L) (λ j. (pair_rows n L R j).ps) k h
      ∙ product-z n (words_of n) both.left.valid both.right.valid k k h (right-in k h) wl.z-fit wr.z-fit

-- ---- imul_state

module _ (n : ℕ) {M : Mem} (w : Words64 M) (r : ℕ) {st st' : List ℕ} {e : ℕ} (c : ImulState n M r st st' (Ok (record { 0 = e }))) where
  asked : Readable n M (too_large (count M) r)
  asked = asked_of n w (too_large (count M) r) (parts-ok n w r c).0

  row_in : r < count M
  row_in = leb-false (count M) r asked.small

  laid-state : st' ≡ lay_state n (act_on n (rows_of n M r) (state_of n st))
  laid-state = c.state ∙ ap (λ (k : ℕ). left_or k st (lay_state n (act_on n (rows_of n M r) (state_of n st)))) (nothing n w r c)

  -- every call that takes a state takes the new one
  pub state-again : by_rank (state_lines n st') ≡ 0
  state-again =
      ap (λ (s : List ℕ). by_rank (state_lines n s)) laid-state
      ∙ state-passes n (act_on n (rows_of n M r) (state_of n st)) (acted-long n w r c) asked.ready.few-qubits

  -- it is the exclusive or of the row's X words and the old state
  pub state-xor : Fit st → st' ≡ xors (row (words_of n) r M.xs) st
  state-xor f = laid-state ∙ acted-xor n asked.ready.valid r row_in st (parts-ok n w r c).1 w.x-fit f
