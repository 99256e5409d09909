-- A turn done late, in memory: the bit that is read, of the row and of the table's entry, is the column of the row with what it owes; so a row with the bit comes to
-- owe the pivot as the lazy turn does. Row and table stay, and what is owed lies in the table still. Assumes nothing.
use mathlib.Core.Path.{◌≡◌, refl, sym, ap, ap₂, ◌∙◌, subst}
use mathlib.Core.Logic.{⊎_elim}
use mathlib.Core.Bool.{Bool, true, false, cond, not, ◌&&◌, xor}
use mathlib.Core.List.{List, [], ◌∷◌, ◌++◌, append_assoc}
use Prim.Native.Nat.{ℕ, suc, ◌+◌, ◌-◌, ◌^◌, ◌≤◌, ◌<◌}
use native.Mathlib.Numerals.{add-one}
use native.Mathlib.Omega.{arith}
use lib.Dec.{eqb, ltb}
use lib.ListN.{length, get_or, take, set, length-set}
use lib.Seq.{take-suc-set, length-take-le, get_or-set_other, set-get_or}
use borrow.Author.Tests.{eq-eqb, ne_eqb, lt-ltb, le-ltb}
use Rattle.pauli.specs.Row.{Row, mul_row, bit_row}
use Rattle.encoding.specs.Set.{Mem, count, rows_of}
use Rattle.encoding.proofs.Parts.{row-end}
use Rattle.reduction.specs.Rule.{Entry, entry}
use Rattle.reduction.specs.Log.{pairs, capacity}
use Rattle.reduction.specs.Workers.{turn_c}
use Rattle.reduction.proofs.Log.{length-first, pairs-more}
use Rattle.reduction.proofs.Lists.{same?}
use Rattle.reduction.proofs.PauliRows.{rows-laws}
use Rattle.tabled.specs.Workers.{Lazy, going, stopped, put_at, owe, row_of, settle, turn_l, fitting, Meets, Clearing}
use Rattle.tabled.proofs.Bits.{row-bit}
use Rattle.tabled.proofs.Columns.{meets-turn}
use Rattle.tabled.proofs.Steps.{put-here, put_other}
use Rattle.late.specs.Workers.{Stage, Store, store, late_of, held_by, held_of, Shape, Carries, Runs, Reads, seen_bit, Sees, OweIn, Owes, TurnIn}
use Rattle.late.proofs.View.{keeps-none, set-put}
use Rattle.late.proofs.Runs.{held-going, carries-none}

-- ---- one entry more

take-two : (l : List ℕ) (m a b : ℕ) → m + 1 < length l → take (suc (suc m)) (set (set l m a) (suc m) b) ≡ take m l ++ (a ∷ b ∷ [])
take-two l m a b h =
    take-suc-set (set l m a) (suc m) b (simp length-set (omega arith))
    ∙ ap (λ k. k ++ (b ∷ [])) (take-suc-set l m a (omega arith)) ∙ append_assoc (take m l) (a ∷ []) (b ∷ [])

pub logged-two : (e : ℕ) (log : List ℕ) (a b : ℕ) → e < capacity log
    → pairs (take (e + 1 + (e + 1)) (set (set log (e + e) a) (e + e + 1) b)) ≡ pairs (take (e + e) log) ++ (entry a b ∷ [])
logged-two e log a b h =
    let m = e + e in
    let two : e + 1 + (e + 1) ≡ suc (suc m) = omega arith in
    ap (λ j. pairs (take j (set (set log m a) (m + 1) b))) two
    ∙ ap (λ j. pairs (take (suc (suc m)) (set (set log m a) j b))) (add-one m)
    ∙ ap pairs (take-two log m a b (omega arith))
    ∙ pairs-more e (take m log) a b (length-take-le m log (omega arith))

lazy-all : {σ : ℕ → Row} {o o' : ℕ → ℕ} {T : ℕ → Row} {g t : ℕ} {l l' : List Entry} → o ≡ o' → l ≡ l'
    → ◌≡◌ {A = Lazy Row} (record { rows = σ; owed = o; table = T; pivots = g; log = l; t = t }) (record { rows = σ; owed = o'; table = T; pivots = g; log = l'; t = t })
lazy-all {σ} {o} {o'} {T} {g} {t} p q = λ i. record { rows = σ; owed = p i; table = T; pivots = g; log = q i; t = t }

-- a byte written keeps below a limit
pub set_below : (l : List ℕ) (a v b : ℕ) → a < length l → v < b → ((k : ℕ) → get_or l k 0 < b) → (k : ℕ) → get_or (set l a v) k 0 < b
set_below l a v b ha hv h k =
    ⊎_elim
    (λ q. omega (arith, ap (λ (f : ℕ → ℕ). f k) (set-put l a v ha), put-here (λ i. get_or l i 0) a v k q))
    (λ ne. omega (arith, ap (λ (f : ℕ → ℕ). f k) (set-put l a v ha), put_other (λ i. get_or l i 0) a v k ne, h k))
    (same? k a)

-- ---- the bit that is read

-- entry 0 has no bit, so what a row that owes nothing reads there is nothing
no-entry : (o : ℕ) (x y : Bool) → (o ≡ 0 → y ≡ false) → xor x y ≡ xor x (not (eqb o 0) && y)
no-entry o x y h = ⊎_elim (λ e. ap (xor x) (h e) ∙ ap (λ b. xor x (not b && y)) (sym (eq-eqb o 0 e))) (λ ne. ap (λ b. xor x (not b && y)) (sym (ne_eqb o 0 ne))) (same? o 0)

module _ {n c w j i : ℕ} {S : Store} {bs ts : List ℕ} (sh : Shape n S) (hc : c < n + n) (z : Sees n c w j i S.rows S.table bs ts) where
  pub reads_of : Reads w j i bs S.owed ts
  reads_of =
      record {
        bit = z.bit;
        row = λ k h. omega (arith, z.word, z.b-long, row-end k w (let q : k < count S.rows = omega (arith, sh.owing.long) in q));
        entry = λ k h. omega (arith, z.word, z.t-long, row-end (get_or S.owed k 0) w (sh.owing.small k));
      }

  pub seen-is : (k : ℕ) → k < count S.rows → seen_bit w j i bs S.owed ts k ≡ bit_row n (row_of (mul_row n) (late_of n S) k) c
  seen-is k hk =
      let o = get_or S.owed k 0 in
      ap₂ xor (z.of_row k hk) (z.of_entry o (sh.owing.small k))
      ∙ no-entry o (bit_row n (rows_of n S.rows k) c) (bit_row n (rows_of n S.table o) c) (λ e. ap (λ (e : ℕ). bit_row n (rows_of n S.table e) c) e ∙ sh.blank c hc)
      ∙ sym (row-bit (bit_row n) (mul_row n) (rows-laws n).bit-mul (late_of n S) k c)

-- ---- a turn

module _ {n c p h : ℕ} {M T : Mem} {owed log : List ℕ} {s : Stage} (t : TurnIn n c p h (store M T owed log s)) (k : ℕ) (hk : k < count M) where
  abbrev j : ℕ
  j = s.g - 1

  abbrev L : Lazy Row
  L = late_of n (store M T owed log s)

  abbrev pub Turned : List ℕ → List ℕ → Stage → Type 0
  Turned owed' log' r = Runs n (Clearing (bit_row n) (mul_row n) c p (s.g - 1)) (turn_c (bit_row n) (mul_row n) (capacity log) c p k) (store M T owed log s) (store M T owed' log' r)

  turns : (owed' log' : List ℕ) (r : Stage) → held_of n (store M T owed' log' r) ≡ turn_l (bit_row n) (mul_row n) (capacity log) c p (s.g - 1) k (late_of n (store M T owed log s))
      → Carries n (store M T owed log s) (store M T owed' log' r) → Turned owed' log' r
  turns owed' log' r e K =
      record {
        meets = subst (λ x. Meets (mul_row n) (Clearing (bit_row n) (mul_row n) c p j) x (turn_c (bit_row n) (mul_row n) (capacity log) c p k (settle (mul_row n) L))) (sym e)
            (meets-turn (rows-laws n) (capacity log) c p j k L t.clearing);
        carries = K;
      }

  still : (b : Bool) → (not (eqb k p) && bit_row n (row_of (mul_row n) L k) c) ≡ b → cond b (fitting (bit_row n) (mul_row n) (capacity log) L (owe j k p L)) (going L)
      ≡ turn_l (bit_row n) (mul_row n) (capacity log) c p (s.g - 1) k (late_of n (store M T owed log s))
  unfolding turn_l
  still b e = sym (ap (λ x. cond x (fitting (bit_row n) (mul_row n) (capacity log) L (owe j k p L)) (going L)) e)

  -- nothing to do
  skip : (not (eqb k p) && bit_row n (row_of (mul_row n) L k) c) ≡ false → Turned owed log s
  skip e = turns owed log s (held-going n (store M T owed log s) t.going ∙ still false e) (carries-none t.shape)

  pub turn-pivot : k ≡ p → Turned owed log s
  turn-pivot e = skip (ap (λ x. not x && bit_row n (row_of (mul_row n) L k) c) (eq-eqb k p e))

  module _ (ne : k ≡ p → ⊥) {w j' i : ℕ} {bs ts : List ℕ} (z : Sees n c w j' i M T bs ts) {r : Bool} (e : r ≡ seen_bit w j' i bs owed ts k) where
    seen : (not (eqb k p) && bit_row n (row_of (mul_row n) L k) c) ≡ r
    seen = ap (λ x. not x && bit_row n (row_of (mul_row n) L k) c) (ne_eqb k p ne) ∙ sym (e ∙ seen-is t.shape t.c-in z k hk)

    pub turn-off : r ≡ false → Turned owed log s
    turn-off f = skip (seen ∙ f)

    module _ (on : r ≡ true) where
      owes-not : get_or owed k 0 < 2 ^ (s.g - 1)
      owes-not = t.clearing.still k (sym (e ∙ seen-is t.shape t.c-in z k hk) ∙ on)

      top : 2 ^ (s.g - 1) + 2 ^ (s.g - 1) ≤ count T
      top = omega (arith, t.shape.big, ap (λ g. 2 ^ g) t.clearing.count)

      in-owed : k < length owed
      in-owed = omega (arith, t.shape.owing.long)

      there : length (pairs (take (s.entries + s.entries) log)) ≡ s.entries
      there = length-first s.entries log t.shape.room

      by-fit : (b : Bool) → ltb (length (pairs (take (s.entries + s.entries) log))) (capacity log) ≡ b
          → cond b (going (owe j k p L)) (stopped L) ≡ turn_l (bit_row n) (mul_row n) (capacity log) c p (s.g - 1) k (late_of n (store M T owed log s))
      unfolding fitting
      by-fit b q = sym (ap (λ x. cond x (going (owe j k p L)) (stopped L)) q) ∙ still true (seen ∙ on)

      pub stay-does : capacity log ≤ s.entries → Turned owed log (record { full = true; entries = s.entries; t = s.t; g = s.g })
      unfolding held_by
      stay-does l =
          turns owed log (record { full = true; entries = s.entries; t = s.t; g = s.g })
          (by-fit false (le-ltb (length (pairs (take (s.entries + s.entries) log))) (capacity log) (omega (arith, there))))
          (record {
            shape = record { owing = t.shape.owing; big = t.shape.big; fits = t.shape.fits; blank = t.shape.blank; room = t.shape.room };
            grows = omega arith;
            rows-keep = keeps-none t.shape.owing.rows;
            table-keep = keeps-none t.shape.owing.table;
            owed-len = refl;
            log-len = refl;
            past = λ _ _. refl;
          })

      fit-does : s.entries < capacity log
          → Turned (set owed k (get_or owed k 0 + h)) (set (set log (s.entries + s.entries) k) (s.entries + s.entries + 1) p) (record { full = false; entries = s.entries + 1; t = s.t; g = s.g })
      unfolding held_by owe
      fit-does l =
          let m = s.entries + s.entries in
          let v = get_or owed k 0 + h in
          let owing = t.shape.owing in
          turns (set owed k v) (set (set log m k) (m + 1) p) (record { full = false; entries = s.entries + 1; t = s.t; g = s.g })
          (ap going (lazy-all (set-put owed k v in-owed ∙ ap (λ x. put_at (λ i. get_or owed i 0) k (get_or owed k 0 + x)) t.bit_is) (logged-two s.entries log k p l))
          ∙ by-fit true (lt-ltb (length (pairs (take m log))) (capacity log) (omega (arith, there))))
          (record {
            shape =
                record {
                  owing =
                      record {
                        rows = owing.rows;
                        table = owing.table;
                        long = length-set owed k v ∙ owing.long;
                        small = set_below owed k v (count T) in-owed (omega (arith, owes-not, t.bit_is, top)) owing.small;
                      };
                  big = t.shape.big;
                  fits = t.shape.fits;
                  blank = t.shape.blank;
                  room = simp length-set (omega arith);
                };
            grows = omega arith;
            rows-keep = keeps-none owing.rows;
            table-keep = keeps-none owing.table;
            owed-len = length-set owed k v;
            log-len = simp length-set;
            past = λ a ha. get_or-set_other (set log m k) (m + 1) a p 0 (omega arith) ∙ get_or-set_other log m a k 0 (omega arith);
          })

    -- what `owe` is asked
    pub owe-in : s.entries < capacity log → OweIn owed log s h k r
    owe-in l = record { room = l; k-in = omega (arith, hk, t.shape.owing.long); small = go r refl }
      where
        go : (b : Bool) → r ≡ b → get_or owed k 0 + cond b h 0 < 256
        go true on = omega (arith, owes-not on, t.bit_is, top on, t.shape.fits)
        go false off = omega (arith, t.shape.owing.small k, t.shape.fits)

    -- and what it leaves
    pub turn_owed : {owed' log' : List ℕ} {s' : Stage} → s.entries < capacity log → Owes owed log s h p k r owed' log' s' → Turned owed' log' s'
    turn_owed {owed'} {log'} {s'} l O = go r refl
      where
        moved : (o l' : List ℕ) (s'' : Stage) → owed' ≡ o → log' ≡ l' → s' ≡ s'' → Turned o l' s'' → Turned owed' log' s'
        moved o l' s'' a b q T = subst (λ x. Turned x log' s') (sym a) (subst (λ x. Turned o x s') (sym b) (subst (λ x. Turned o l' x) (sym q) T))

        go : (b : Bool) → r ≡ b → Turned owed' log' s'
        go true on =
            moved (set owed k (get_or owed k 0 + h)) (set (set log (s.entries + s.entries) k) (s.entries + s.entries + 1) p) (record { full = false; entries = s.entries + 1; t = s.t; g = s.g })
            (O.owed-is ∙ ap (λ b. set owed k (get_or owed k 0 + cond b h 0)) on)
            (O.log_is ∙ ap (λ b. set (set log (s.entries + s.entries) (cond b k (get_or log (s.entries + s.entries) 0))) (s.entries + s.entries + 1) (cond b p (get_or log (s.entries + s.entries + 1) 0))) on)
            (O.at-is ∙ ap (λ b. record { full = false; entries = cond b (s.entries + 1) s.entries; t = s.t; g = s.g }) on)
            (fit-does on l)
        go false off =
            moved owed log s
            (O.owed-is ∙ ap (λ b. set owed k (get_or owed k 0 + cond b h 0)) off ∙ ap (set owed k) (let z : get_or owed k 0 + 0 ≡ get_or owed k 0 = omega arith in z) ∙ set-get_or owed k 0)
            (O.log_is ∙ ap (λ b. set (set log (s.entries + s.entries) (cond b k (get_or log (s.entries + s.entries) 0))) (s.entries + s.entries + 1) (cond b p (get_or log (s.entries + s.entries + 1) 0))) off
            ∙ ap (λ (l' : List ℕ). set l' (s.entries + s.entries + 1) (get_or log (s.entries + s.entries + 1) 0)) (set-get_or log (s.entries + s.entries) 0) ∙ set-get_or log (s.entries + s.entries + 1) 0)
            (O.at-is ∙ ap (λ b. record { full = false; entries = cond b (s.entries + 1) s.entries; t = s.t; g = s.g }) off
            ∙ (λ i. record { full = sym t.going i; entries = s.entries; t = s.t; g = s.g }))
            (turn-off off)
