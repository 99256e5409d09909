-- The steps of the rule, each as a piece of a run in memory: a turn, the lead of a pivot, a column, the whole. The code looks at the bit in the words and the rule
-- at that of the row, which are the same; t stays until a pivot is done. Assumes nothing.
use Prim.Native.Nat.{ℕ, suc, ◌+◌, ◌<◌}
use native.Mathlib.Numerals.{add-one}
use mathlib.Core.Path.{◌≡◌, sym, ap, ◌∙◌, subst}
use mathlib.Core.Bool.{Bool, true, false, cond, not, ◌&&◌}
use mathlib.Core.Option.{Option, none, some}
use mathlib.Core.List.{List, ◌++◌}
use lib.Dec.{eqb}
use lib.ListN.{get_or, drop}
use borrow.Author.Tests.{eq-eqb, ne_eqb}
use Rattle.pauli.specs.Row.{mul_row, bit_row}
use Rattle.encoding.specs.Set.{Mem, count, rows_of}
use Rattle.reduction.specs.Rule.{counted, first}
use Rattle.reduction.specs.Log.{capacity}
use Rattle.reduction.specs.Capacity.{done}
use Rattle.reduction.specs.Workers.{and_then, multiply_c, turn_c, lead_c, pivot_c, column_by_c, column_c}
use Rattle.reduction.proofs.Pieces.{At, pivot-at}
use Rattle.late.specs.Workers.{Come}
use Rattle.terms.specs.Workers.{bit_in, Ready, run_of, outcome, Does}
use Rattle.terms.proofs.RowView.{bit-view}
use Rattle.terms.proofs.Steps.{does-as, does-none, does-full}

-- ---- one row

module _ {n : ℕ} {M : Mem} {log : List ℕ} {s : Come} (ready : Ready n M log s) (c p k : ℕ) where
  turn-if : (b : Bool) → (not (eqb k p) && bit_row n (rows_of n M k) c) ≡ b
      → cond b (multiply_c (mul_row n) (capacity log) k p (run_of n M log s)) (done (run_of n M log s)) ≡ turn_c (bit_row n) (mul_row n) (capacity log) c p k (run_of n M log s)
  unfolding turn_c run_of
  turn-if b e = sym (ap (λ x. cond x (multiply_c (mul_row n) (capacity log) k p (run_of n M log s)) (done (run_of n M log s))) e)

  -- it is the pivot
  pub turn-same : k ≡ p → Does n (turn_c (bit_row n) (mul_row n) (capacity log) c p k) M log s M log s
  turn-same e = does-as (turn-if false (ap (λ x. not x && bit_row n (rows_of n M k) c) (eq-eqb k p e))) (does-none ready)

  module _ (hc : c < n + n) (hk : k < count M) (ne : k ≡ p → ⊥) where
    seen : (b : Bool) → b ≡ bit_in n M.xs M.zs k c → (not (eqb k p) && bit_row n (rows_of n M k) c) ≡ b
    seen b e = ap (λ x. not x && bit_row n (rows_of n M k) c) (ne_eqb k p ne) ∙ sym (bit-view ready.sound k c hk hc) ∙ sym e

    -- its bit is 0
    pub turn-zero : false ≡ bit_in n M.xs M.zs k c → Does n (turn_c (bit_row n) (mul_row n) (capacity log) c p k) M log s M log s
    turn-zero e = does-as (turn-if false (seen false e)) (does-none ready)

    -- its bit is 1
    pub turn_one : {M' : Mem} {log' : List ℕ} {s' : Come} → true ≡ bit_in n M.xs M.zs k c → Does n (multiply_c (mul_row n) (capacity log) k p) M log s M' log' s'
        → Does n (turn_c (bit_row n) (mul_row n) (capacity log) c p k) M log s M' log' s'
    turn_one e L = does-as (turn-if true (seen true e)) L

-- ---- the lead of a pivot

module _ {n : ℕ} {M : Mem} {log : List ℕ} {s : Come} (ready : Ready n M log s) (p f : ℕ) where
  lead-if : (b : Bool) → eqb f p ≡ b → cond b (done (run_of n M log s)) (multiply_c (mul_row n) (capacity log) p f (run_of n M log s)) ≡ lead_c (bit_row n) (mul_row n) (capacity log) p f (run_of n M log s)
  unfolding lead_c
  lead-if b e = sym (ap (λ x. cond x (done (run_of n M log s)) (multiply_c (mul_row n) (capacity log) p f (run_of n M log s))) e)

  pub lead-same : f ≡ p → Does n (lead_c (bit_row n) (mul_row n) (capacity log) p f) M log s M log s
  lead-same e = does-as (lead-if true (eq-eqb f p e)) (does-none ready)

  pub lead-other : {M' : Mem} {log' : List ℕ} {s' : Come} → (f ≡ p → ⊥) → Does n (multiply_c (mul_row n) (capacity log) p f) M log s M' log' s'
      → Does n (lead_c (bit_row n) (mul_row n) (capacity log) p f) M log s M' log' s'
  lead-other ne L = does-as (lead-if false (ne_eqb f p ne)) L

-- ---- a column

module _ {n : ℕ} {M : Mem} {log : List ℕ} {s : Come} (ready : Ready n M log s) (listed extra : List ℕ) (c : ℕ) where
  column-by : (o : Option ℕ) → first (bit_row n) (rows_of n M) c (drop s.t listed) ≡ o
      → column_by_c (bit_row n) (mul_row n) (capacity log) listed extra c o (run_of n M log s) ≡ column_c (bit_row n) (mul_row n) (capacity log) listed extra c (run_of n M log s)
  unfolding column_c run_of
  column-by o e = sym (ap (λ x. column_by_c (bit_row n) (mul_row n) (capacity log) listed extra c x (run_of n M log s)) e)

  pub column-none : first (bit_row n) (rows_of n M) c (drop s.t listed) ≡ none → Does n (column_c (bit_row n) (mul_row n) (capacity log) listed extra c) M log s M log s
  unfolding column_by_c
  column-none e = does-as (column-by none e) (does-none ready)

  module _ (f : ℕ) (e : first (bit_row n) (rows_of n M) c (drop s.t listed) ≡ some f) where
    by-pivot : and_then (pivot_c (bit_row n) (mul_row n) (capacity log) (listed ++ extra) c (get_or listed s.t 0) f (run_of n M log s)) (λ r. done (counted r))
        ≡ column_c (bit_row n) (mul_row n) (capacity log) listed extra c (run_of n M log s)
    unfolding column_by_c run_of
    by-pivot = column-by (some f) e

    pub column-full : {M' : Mem} {log' : List ℕ} {s' : Come} → s'.full ≡ true
        → Does n (pivot_c (bit_row n) (mul_row n) (capacity log) (listed ++ extra) c (get_or listed s.t 0) f) M log s M' log' s'
        → Does n (column_c (bit_row n) (mul_row n) (capacity log) listed extra c) M log s M' log' s'
    column-full q L = does-as by-pivot (does-full (λ r. done (counted r)) L q)

    same-t : {M' : Mem} {log' : List ℕ} {s' : Come} → s'.full ≡ false
        → Does n (pivot_c (bit_row n) (mul_row n) (capacity log) (listed ++ extra) c (get_or listed s.t 0) f) M log s M' log' s' → s'.t ≡ s.t
    unfolding outcome run_of
    same-t {M'} {log'} {s'} q L =
        subst (At s.t) (sym (sym (ap (λ b. outcome b (run_of n M' log' s')) q) ∙ L.result)) (pivot-at (bit_row n) (mul_row n) (capacity log) (listed ++ extra) c (get_or listed s.t 0) f (run_of n M log s))

    pub column-done : {M' : Mem} {log' : List ℕ} {s' : Come} → s'.full ≡ false
        → Does n (pivot_c (bit_row n) (mul_row n) (capacity log) (listed ++ extra) c (get_or listed s.t 0) f) M log s M' log' s'
        → Does n (column_c (bit_row n) (mul_row n) (capacity log) listed extra c) M log s M' log' (record { full = false; entries = s'.entries; t = s.t + 1 })
    unfolding and_then outcome counted run_of
    column-done {M'} {log'} {s'} q L =
        let u = same-t q L in
        record {
          result =
              ap (λ j. done (run_of n M' log' (record { full = false; entries = s'.entries; t = j }))) (add-one s.t ∙ ap suc (sym u))
              ∙ ap (λ r. and_then r (λ r'. done (counted r'))) (sym (ap (λ b. outcome b (run_of n M' log' s')) q) ∙ L.result) ∙ by-pivot;
          grows = L.grows;
          room = L.room;
          keeps = L.keeps;
          log-len = L.log-len;
          past = L.past;
        }
