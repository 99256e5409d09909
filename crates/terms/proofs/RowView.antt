-- The leaves over a row set: a column is `bit_row`, the first place is that of `first`, a product in place is `mul_at`: the product of a row by one of another
-- set, which is the same set here (`written-by` of `late`). Assumes nothing.
use mathlib.Core.Path.{◌≡◌, refl, sym, ap, ◌∙◌}
use mathlib.Core.Bool.{Bool, true, false, cond}
use mathlib.Core.Option.{none, some}
use mathlib.Core.List.{List}
use Prim.Native.Nat.{ℕ, ◌+◌, ◌-◌, ◌*◌, ◌/◌, ◌%◌, ◌^◌, ◌≤◌, ◌<◌}
use native.Mathlib.Decide.{dec_lt}
use native.Mathlib.Omega.{arith}
use borrow.Author.Tests.{lt-ltb, le-ltb}
use lib.Dec.{ltb}
use lib.ListN.{length, get_or, drop}
use Rattle.pauli.specs.Row.{Row, mul_row, bit_row}
use Rattle.encoding.specs.Limits.{words_of}
use Rattle.encoding.specs.Words.{odd, bit_at}
use Rattle.encoding.specs.Set.{row, Mem, count, rows_held, rows_of, lay, Valid, Sound}
use Rattle.encoding.proofs.RowWords.{clashes-fit}
use Rattle.encoding.proofs.Memory.{laid}
use Rattle.pauli.specs.Rows.{clashes_of}
use Rattle.reduction.specs.Rule.{mul_at, first}
use Rattle.std.specs.Prelude.{Some, None}
pub use Rattle.late.proofs.Places.{from_is, from_past}
use Rattle.reduction.proofs.Places.{from_some, from-none}
use Rattle.terms.specs.Workers.{column_of, bit_in, first_place, place_from, mul_in, clashes_in, Keeps, Below}
use Rattle.encoding.proofs.Parts.{get_d_part}
use Rattle.tabled.specs.Workers.{put_at}
use Rattle.late.specs.Workers.{word_bit}
use Rattle.late.proofs.ColumnBits.{x-column, z-column}
use Rattle.late.proofs.View.{written-by}
use Rattle.terms.proofs.Columns.{bit-within}
use Rattle.terms.proofs.InSet.{shape_is, mul-in-is, clashes-in}

-- ---- a column

-- a bit of a row is one of the words
in_row : (w k : ℕ) (xs : List ℕ) (q : ℕ) → q / 64 < w → bit_at (row w k xs) (q / 64) (q % 64) ≡ word_bit w (q / 64) (q % 64) xs k
unfolding bit_at
in_row w k xs q h = ap (λ u. odd (u / 2 ^ (q % 64))) (get_d_part (k * w) w xs (q / 64) h)

column-view : (n w : ℕ) {M : Mem} (v : Valid n w M) (k : ℕ) → k < count M → (c : ℕ) → c < n + n
    → column_of n (row w k M.xs) (row w k M.zs) c ≡ bit_row n (rows_held n w M k) c
column-view n w {M} v k hk c h = go (dec_lt c n)
  where
    either : (b : Bool) → ltb c n ≡ b
        → column_of n (row w k M.xs) (row w k M.zs) c ≡ cond b (bit_at (row w k M.xs) (c / 64) (c % 64)) (bit_at (row w k M.zs) ((c - n) / 64) ((c - n) % 64))
    either b e = ap (λ b. cond b (bit_at (row w k M.xs) (c / 64) (c % 64)) (bit_at (row w k M.zs) ((c - n) / 64) ((c - n) % 64))) e

    go : Dec (c < n) → column_of n (row w k M.xs) (row w k M.zs) c ≡ bit_row n (rows_held n w M k) c
    go (yes l) = either true (lt-ltb c n l) ∙ in_row w k M.xs c (omega (arith, v.wide)) ∙ x-column n w v k hk c l
    go (no l) = either false (le-ltb c n (omega arith)) ∙ in_row w k M.zs (c - n) (omega (arith, v.wide)) ∙ z-column n w v k hk c (omega arith) h

pub bit-view : {n : ℕ} {M : Mem} → Sound n M → (k c : ℕ) → k < count M → c < n + n → bit_in n M.xs M.zs k c ≡ bit_row n (rows_of n M k) c
bit-view {n} {M} s k c hk hc = sym (bit-within n M.xs M.zs k c s.few-qubits (omega (arith, s.few-rows))) ∙ column-view n (words_of n) s.valid k hk c hc

-- ---- the first place

-- the place that the search gives, from t on
module _ {n : ℕ} {M : Mem} (s : Sound n M) (l : List ℕ) (t c : ℕ) (ht : t ≤ length l) (hl : Below (count M) l) (hc : c < n + n) where
  tells : (i : ℕ) → i < length l → bit_in n M.xs M.zs (get_or l i 0) c ≡ bit_row n (rows_of n M (get_or l i 0)) c
  tells i h = bit-view s (get_or l i 0) c (hl i h) hc

  pub record Place (r : ℕ) : Type 0 where
    pub from : t ≤ r
    pub inside : r < length l
    pub there : first (bit_row n) (rows_of n M) c (drop t l) ≡ some (get_or l r 0)

  pub find-some : {r : ℕ} → place_from (λ k. bit_in n M.xs M.zs k c) t l ≡ Some r → Place r
  find-some {r} e =
      let p = from_is (λ k. bit_in n M.xs M.zs k c) t l e in
      record { from = omega (arith, p.0); inside = p.1; there = from_some (bit_row n) (rows_of n M) c (λ k. bit_in n M.xs M.zs k c) l t r ht tells p.0 p.1 }

  pub find_none : place_from (λ k. bit_in n M.xs M.zs k c) t l ≡ None → first (bit_row n) (rows_of n M) c (drop t l) ≡ none
  find_none e =
      from-none (bit_row n) (rows_of n M) c (λ k. bit_in n M.xs M.zs k c) l t (t + first_place (λ k. bit_in n M.xs M.zs k c) (drop t l)) ht tells refl
      (from_past (λ k. bit_in n M.xs M.zs k c) t l e)

-- ---- a product in place

-- what a product in place leaves of a row set
pub record Held (n : ℕ) (σ : ℕ → Row) (M M' : Mem) : Type 0 where
  pub keeps : Keeps n M M'
  pub rows_are : rows_of n M' ≡ σ
  pub laid_out : M' ≡ lay n (count M) σ

pub mul-view : {n : ℕ} {M : Mem} → Sound n M → (a b : ℕ) → a < count M → b < count M → Held n (mul_at (mul_row n) (rows_of n M) a b) M (mul_in n a b M)
unfolding mul_at put_at
mul-view {n} {M} s a b ha hb =
    let q = mul-in-is n a b M (shape_is s) ha hb in
    let x = q.words in
    let W = written-by s s (words_of n) refl a b ha hb a ha
    (record { factor = q.factor; words = record { here = x.here; x-rest = x.x-rest; z-rest = x.z-rest }; many = q.many; exponents = q.exponents }) in
    record {
      keeps = W.keeps;
      rows_are = W.rows_are;
      laid_out = laid n (words_of n) W.keeps.sound.valid W.rows_are ∙ ap (λ m. lay n m (mul_at (mul_row n) (rows_of n M) a b)) W.keeps.many;
    }

-- its number of clashes
pub clashes-view : {n : ℕ} {M : Mem} → Sound n M → (a b : ℕ) → a < count M → b < count M → clashes_in n a b M ≡ clashes_of n (rows_of n M a) (rows_of n M b)
clashes-view {n} {M} s a b ha hb = clashes-in n a b M (shape_is s) ha hb ∙ clashes-fit n (words_of n) s.valid M s.few-qubits a b ha
