-- A row on a lent basis state: what the leaf leaves in the state's words, said of the row and the state. At n and above the row holds I, so that the places
-- there change nothing and bring no exponent. Assumes nothing.
use mathlib.Core.Path.{◌≡◌, refl, sym, ap, ◌∙◌}
use mathlib.Core.Bool.{Bool}
use mathlib.Core.List.{List}
use Prim.Native.Nat.{ℕ, ◌%◌, ◌<◌}
use lib.ListN.{take}
use Rattle.pauli.specs.Pauli.{Pauli, turn_phase, act, act_phase}
use Rattle.encoding.specs.Limits.{words_of}
use Rattle.encoding.specs.Words.{unbits, pack}
use Rattle.encoding.specs.Set.{row, Mem, count, rows_of, Sound}
use Rattle.encoding.specs.Refusals.{state_lines}
use Rattle.encoding.specs.Ranks.{by_rank}
use Rattle.encoding.proofs.Memory.{x-row, z-row, clean}
use Rattle.encoding.proofs.Padding.{total-take}
use Rattle.encoding.proofs.RowWords.{in_words, first-n}
use Rattle.encoding.proofs.States.{state-long}
use Rattle.products.specs.Leaves.{RowAction}
use Rattle.products.proofs.PartLaws.{same-action}
use Rattle.products.proofs.Xor.{acted-is}
use Rattle.cmpnt_list.specs.Workers.{StateActed}

module _ (n : ℕ) {M : Mem} (g : Sound n M) (r : ℕ) (hr : r < count M) {st st' : List ℕ} {e : ℕ} (z : by_rank (state_lines n st) ≡ 0) where
  pub row-acted : RowAction (row (words_of n) r M.xs) (row (words_of n) r M.zs) st st' e → StateActed n (rows_of n M r) st st' e
  row-acted p =
      let w = words_of n in
      let u = in_words w M r in
      let s = unbits st in
      let l = state-long n st z in
      let c = clean n w g.valid r hr in
      let lx = x-row n w g.valid r hr in
      let lz = z-row n w g.valid r hr in
      let q = same-action (lz ∙ sym lx) (l.0 ∙ sym lx) p in
      record {
        state =
            q.state
            ∙ ap (λ (k : ℕ). pack (λ (b : Bool). b) k (act u s)) lx
            ∙ acted-is n g.valid r hr st z;
        exponent =
            q.exponent
            ∙ ap (λ (k : ℕ). k % 4) (total-take turn_phase (λ b. refl) n u s c ∙ ap (λ (a : List Pauli). act_phase a (take n s)) (first-n n w M r));
      }
