-- A column cleared late, in memory: what a turn asks holds again after a turn, since the block's pivots and the log's length stay (`turn-next`, `turn-as`). The pivot
-- that is frozen has the table doubled by it, and what rows owe stands for the same as before (`freeze-in`, `freeze-then`). Assumes nothing.
use mathlib.Core.Path.{◌≡◌, refl, sym, ap, ◌∙◌, subst}
use mathlib.Core.Bool.{false}
use mathlib.Core.List.{List}
use Prim.Native.Nat.{ℕ, ◌+◌, ◌-◌, ◌^◌, ◌/◌}
use native.Mathlib.Numerals.{add-one}
use native.Mathlib.Omega.{arith}
use lib.ListN.{take}
use lib.Pow.{pow_pos}
use Rattle.pauli.specs.Row.{Row, mul_row, bit_row}
use Rattle.encoding.specs.Set.{Mem, rows_of}
use Rattle.reduction.specs.Rule.{Run}
use Rattle.reduction.specs.Capacity.{Reduced}
use Rattle.reduction.specs.Log.{pairs, capacity}
use Rattle.reduction.proofs.PauliRows.{rows-laws}
use Rattle.tabled.specs.Workers.{settle, with_table, Doubles, Meets, Clearing}
use Rattle.tabled.proofs.Steps.{freeze-settle}
use Rattle.tabled.proofs.Columns.{freeze-clearing}
use Rattle.late.specs.Workers.{Stage, lazy_of, DoubleIn, Doubled, Store, store, late_of, held_of, Shape, Carries, Runs, TurnIn, FreezeIn}
use Rattle.late.proofs.View.{keeps_then}

module _ {n c p h : ℕ} {S₀ S : Store} (t : TurnIn n c p h S₀) (K : Carries n S₀ S) (on : S.at.full ≡ false) (C : Clearing (bit_row n) (mul_row n) c p (S₀.at.g - 1) (late_of n S)) where
  same-g : S.at.g ≡ S₀.at.g
  same-g = C.count ∙ sym t.clearing.count

  pub turn-next : TurnIn n c p h S
  turn-next =
      record {
        shape = K.shape;
        going = on;
        bit_is = t.bit_is ∙ ap (λ j. 2 ^ (j - 1)) (sym same-g);
        clearing = subst (λ j. Clearing (bit_row n) (mul_row n) c p (j - 1) (late_of n S)) (sym same-g) C;
        c-in = t.c-in;
      }

  pub turn-as : (f : ℕ → Run Row → Reduced Row) {S' : Store} → Runs n (Clearing (bit_row n) (mul_row n) c p (S.at.g - 1)) (f (capacity S.log)) S S'
      → Runs n (Clearing (bit_row n) (mul_row n) c p (S₀.at.g - 1)) (f (capacity S₀.log)) S S'
  turn-as f {S'} R =
      subst (λ j. Runs n (Clearing (bit_row n) (mul_row n) c p (j - 1)) (f (capacity S₀.log)) S S') same-g
      (subst (λ m. Runs n (Clearing (bit_row n) (mul_row n) c p (S.at.g - 1)) (f (m / 2)) S S') K.log-len R)

-- ---- the next pivot of a block

module _ {n c p o : ℕ} {M T : Mem} {owed log : List ℕ} {s : Stage} (h : FreezeIn n c p o (store M T owed log s)) where
  pub double-in : DoubleIn n o p T M
  double-in =
      record {
        table = h.shape.owing.table;
        rows = h.shape.owing.rows;
        some = omega (arith, h.size, pow_pos s.g);
        room = omega (arith, h.size, h.more);
        a_in = h.p-in;
      }

  module _ {T' : Mem} (D : Doubled n o p T M T') where
    abbrev next : Stage
    next = record { full = false; entries = s.entries; t = s.t; g = s.g + 1 }

    entries-are : Doubles (mul_row n) (2 ^ s.g) (rows_of n M p) (rows_of n T) (rows_of n T')
    entries-are = subst (λ j. Doubles (mul_row n) j (rows_of n M p) (rows_of n T) (rows_of n T')) h.size D.entries

    table_is : with_table (rows_of n T') (late_of n (store M T owed log s)) ≡ late_of n (store M T' owed log next)
    unfolding with_table
    table_is = ap (λ j. lazy_of n M owed T' j (pairs (take (s.entries + s.entries) log)) s.t) (sym (add-one s.g))

    shape-next : Shape n (store M T' owed log next)
    shape-next =
        let owing = h.shape.owing in
        record {
          owing =
              record {
                rows = owing.rows;
                table = D.keeps.sound;
                long = owing.long;
                small = λ k. omega (arith, owing.small k, D.keeps.many);
              };
          big = omega (arith, h.more, D.keeps.many, ap (λ j. 2 ^ j) (add-one s.g));
          fits = omega (arith, D.keeps.many, h.shape.fits);
          blank = λ q hq. ap (λ (r : Row). bit_row n r q) (D.entries.below 0 (omega (arith, h.size, pow_pos s.g))) ∙ h.shape.blank q hq;
          room = h.shape.room;
        }

    pub freeze-in : TurnIn n c p o (store M T' owed log (record { full = false; entries = s.entries; t = s.t; g = s.g + 1 }))
    freeze-in =
        let back : s.g + 1 - 1 ≡ s.g = omega arith in
        record {
          shape = shape-next;
          going = refl;
          bit_is = h.size ∙ ap (λ j. 2 ^ j) (sym back);
          clearing = subst (λ j. Clearing (bit_row n) (mul_row n) c p j (late_of n (store M T' owed log next))) (sym back)
              (subst (Clearing (bit_row n) (mul_row n) c p s.g) table_is (freeze-clearing (rows-laws n) (capacity log) c p s.g (rows_of n T') (late_of n (store M T owed log s)) entries-are h.led));
          c-in = h.c-in;
        }

    pub freeze-then : {f : Run Row → Reduced Row} {S' : Store}
        → Runs n (Clearing (bit_row n) (mul_row n) c p (s.g + 1 - 1)) f (store M T' owed log (record { full = false; entries = s.entries; t = s.t; g = s.g + 1 })) S'
        → Runs n (Clearing (bit_row n) (mul_row n) c p s.g) f (store M T owed log s) S'
    freeze-then {f} {S'} E =
        let back : s.g + 1 - 1 ≡ s.g = omega arith in
        let same : settle (mul_row n) (late_of n (store M T' owed log next)) ≡ settle (mul_row n) (late_of n (store M T owed log s))
        = ap (settle (mul_row n)) (sym table_is) ∙ freeze-settle (mul_row n) (rows_of n M p) (rows_of n T') (late_of n (store M T owed log s)) entries-are h.led.small in
        let K = E.carries in
        record {
          meets = subst (λ j. Meets (mul_row n) (Clearing (bit_row n) (mul_row n) c p j) (held_of n S') (f (settle (mul_row n) (late_of n (store M T owed log s))))) back
              (subst (λ q. Meets (mul_row n) (Clearing (bit_row n) (mul_row n) c p (s.g + 1 - 1)) (held_of n S') (f q)) same E.meets);
          carries =
              record {
                shape = K.shape;
                grows = K.grows;
                rows-keep = K.rows-keep;
                table-keep = keeps_then D.keeps K.table-keep;
                owed-len = K.owed-len;
                log-len = K.log-len;
                past = K.past;
              };
        }
