-- Where a row lies, and what was written there: row r starts at r times w and ends w words on, which lies inside and stays small within the limits, so that
-- the lent part is the row (`part-is`). Assumes nothing.
use mathlib.Core.Path.{◌≡◌, sym, ap, ap₂, ◌∙◌, subst}
use mathlib.Core.List.{List}
use Prim.Native.Nat.{ℕ, ◌+◌, ◌-◌, ◌*◌, ◌≤◌, ◌<◌}
use native.Mathlib.Nat.{mul-le-mul}
use native.Mathlib.Omega.{arith}
use borrow.Rule.Slice.PartMut.{put_mid}
use lib.ListN.{length}
use Rattle.encoding.specs.Limits.{max_qubits, max_rows, max_words, words_of}
use Rattle.encoding.specs.Words.{unpack}
use Rattle.encoding.specs.Set.{part, row, Mem}
use Rattle.encoding.proofs.Parts.{row-end, length_part}
use Rattle.encoding.proofs.RowWords.{in_words}
use Rattle.products.specs.Leaves.{Outside}
use Rattle.products.proofs.PartLaws.{part-put, outside-put}
use Rattle.cmpnt_list.specs.Workers.{RowAt}

-- ---- where a row lies

pub row_at : (r n m : ℕ) {w : ℕ} → r < m → w ≡ words_of n → RowAt r (words_of n) m (r * w) (r * w + w)
row_at r n m {w} h e =
    record {
      from = ap (λ (k : ℕ). r * k) e;
      to = ap (λ (k : ℕ). r * k + k) e;
      inside = subst (λ (k : ℕ). r * k + k ≤ m * words_of n) (sym e) (row-end r (words_of n) h);
    }

-- within the limits the numbers stay small
pub row_small : (r n m : ℕ) {w : ℕ} → r < m → n ≤ max_qubits → m ≤ max_rows → w ≡ words_of n → r * w ≤ max_rows * max_words
row_small r n m {w} h hn hm e =
    let a : r ≤ max_rows = omega arith in
    let b : w ≤ max_words = omega arith in
    mul-le-mul a b

module _ {r w m a e : ℕ} (p : RowAt r w m a e) where
  pub part-is : (xs : List ℕ) → part a e xs ≡ row w r xs
  part-is xs = ap₂ (λ (i j : ℕ). part i j xs) p.from p.to

  -- a row that was written, and the rest
  module _ (xs ys : List ℕ) (h : length xs ≡ m * w) (l : length ys ≡ length (part a e xs)) where
    bounds : (a ≤ e) × (e ≤ length xs)
    bounds = (omega arith, omega arith)

    new-long : length ys ≡ e - a
    new-long = l ∙ length_part a e xs bounds.0 bounds.1

    pub put-row : row w r (put_mid a (e - a) xs ys) ≡ ys
    put-row = sym (part-is (put_mid a (e - a) xs ys)) ∙ part-put a e xs ys bounds.0 bounds.1 new-long

    pub put_rest : Outside (r * w) (r * w + w) xs (put_mid a (e - a) xs ys)
    put_rest =
        subst (λ (i : ℕ). Outside i (r * w + w) xs (put_mid a (e - a) xs ys)) p.from
        (subst (λ (j : ℕ). Outside a j xs (put_mid a (e - a) xs ys)) p.to (outside-put a e xs ys bounds.0 bounds.1 new-long))

pub words-at : {r w m a e : ℕ} → RowAt r w m a e → (M : Mem) → unpack (part a e M.xs) (part a e M.zs) ≡ in_words w M r
words-at p M = ap₂ unpack (part-is p M.xs) (part-is p M.zs)
