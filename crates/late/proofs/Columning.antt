-- A pivot, a column and a block done late, in memory: the place that is found is the rule's, since the bit read is that of the row with what it owes; a column keeps
-- rows owing pivots of the block only (`Within`), and a block that is full is paid first, which changes nothing that memory stands for. Assumes nothing.
use mathlib.Core.Path.{◌≡◌, refl, sym, ap, ◌∙◌, subst}
use mathlib.Core.Bool.{Bool, true, false}
use mathlib.Core.Option as math
use mathlib.Core.Option.{none, some}
use mathlib.Core.List.{List, [], ◌++◌}
use Prim.Native.Nat.{ℕ, suc, ◌+◌, ◌*◌, ◌^◌, ◌/◌, ◌%◌, ◌≤◌, ◌<◌}
use native.Mathlib.Decide.{dec_lt}
use native.Mathlib.Nat.{mod-eq_of_lt}
use native.Mathlib.Numerals.{add-one}
use native.Mathlib.Omega.{arith}
use lib.ListN.{length, get_or, drop, take}
use lib.Pow.{pow-lt}
use Rattle.pauli.specs.Row.{Row, mul_row, bit_row}
use Rattle.encoding.specs.Set.{Mem, count, rows_of}
use Rattle.reduction.specs.Rule.{Run, counted, first}
use Rattle.reduction.specs.Log.{pairs, capacity}
use Rattle.reduction.specs.Capacity.{Reduced, done, full}
use Rattle.reduction.specs.Workers.{and_then, through, turn_c, lead_c, pivot_c, column_by_c, column_c, first_place, Below}
use Rattle.reduction.proofs.Run.{found_left}
use Rattle.reduction.proofs.Pieces.{At, pivot-at}
use Rattle.reduction.proofs.Places.{from_some, from-none}
use Rattle.tabled.specs.Workers.{Lazy, row_of, settle, Meets, goes, stops, Led, Clearing, Within}
use Rattle.tabled.proofs.Steps.{all_paid}
use Rattle.late.specs.Workers.{Stage, lazy_of, PaidAll, table_rows, block_pivots, Store, store, late_of, held_by, held_of, Shape, Carries, Runs, Sees, Reads, seen_bit, place_from, FreezeIn, PivotIn, SearchIn, rows_paid, FoundAt, Found, ColumnIn, BeginIn, Began, StepIn, StartIn, begun, run_of, outcome, start, Does}
use Rattle.std.specs.Prelude.{Option, None}
use Rattle.late.proofs.Places.{from_is, from_past}
use Rattle.late.proofs.View.{keeps-none}
use Rattle.late.proofs.Runs.{held-going, held-stopped, carries-none, carries-then, runs-going, runs-stopped, runs-full, runs_then}
use Rattle.late.proofs.Turning.{reads_of, seen-is}

-- ---- the block's next pivot

pub freeze-ready : {n c p f o : ℕ} {S S₁ : Store} {g : Run Row → Reduced Row} → PivotIn n c p f o S → Runs n (Led (bit_row n) (mul_row n) c p S.at.g) g S S₁ → S₁.at.full ≡ false
    → FreezeIn n c p o S₁
freeze-ready {n} {c} {p} {f} {o} {S} {S₁} h K e =
    let led = (runs-going K e).1 in
    let same : S₁.at.g ≡ S.at.g = led.count in
    record {
      shape = K.carries.shape;
      led = subst (λ j. Led (bit_row n) (mul_row n) c p j (late_of n S₁)) (sym same) led;
      size = h.space.size ∙ ap (λ j. 2 ^ j) (sym same);
      more = omega (arith, h.space.more, K.carries.table-keep.many, ap (λ j. 2 ^ j) same);
      few = omega (arith, same, h.space.few);
      p-in = omega (arith, K.carries.rows-keep.many, h.ready.p-in);
      c-in = h.c-in;
    }

-- the same where a log's length is another's
pub runs-room : {n : ℕ} {I : Lazy Row → Type 0} (f : ℕ → Run Row → Reduced Row) {S S' : Store} (log log₀ : List ℕ) → length log ≡ length log₀ → Runs n I (f (capacity log)) S S' → Runs n I (f (capacity log₀)) S S'
runs-room {n} {I} f {S} {S'} log log₀ e R = subst (λ m. Runs n I (f (m / 2)) S S') e R

module _ {n c p : ℕ} (f : ℕ) {S S₁ : Store} (all : List ℕ) (K : Runs n (Led (bit_row n) (mul_row n) c p S.at.g) (lead_c (bit_row n) (mul_row n) (capacity S.log) p f) S S₁) where
  pub pivot-full : {J : Lazy Row → Type 0} → S₁.at.full ≡ true → Runs n J (pivot_c (bit_row n) (mul_row n) (capacity S.log) all c p f) S S₁
  unfolding pivot_c
  pivot-full e = runs-full K (λ r. through (turn_c (bit_row n) (mul_row n) (capacity S.log) c p) all r) e

  pub pivot-then : {S₂ : Store} → S₁.at.full ≡ false
      → Runs n (Clearing (bit_row n) (mul_row n) c p S₁.at.g) (through (turn_c (bit_row n) (mul_row n) (capacity S₁.log) c p) all) S₁ S₂
      → Runs n (Clearing (bit_row n) (mul_row n) c p S.at.g) (pivot_c (bit_row n) (mul_row n) (capacity S.log) all c p f) S S₂
  unfolding pivot_c
  pivot-then {S₂} e E =
      let same : S₁.at.g ≡ S.at.g = (runs-going K e).1.count in
      runs_then K e
      (subst (λ j. Runs n (Clearing (bit_row n) (mul_row n) c p j) (through (turn_c (bit_row n) (mul_row n) (capacity S.log) c p) all) S₁ S₂) same
      (runs-room (λ room. through (turn_c (bit_row n) (mul_row n) room c p) all) S₁.log S.log K.carries.log-len E))

-- ---- the place found

module _ {n c t : ℕ} {M : Mem} {owed : List ℕ} {T : Mem} {listed : List ℕ} (h : SearchIn n c t M owed T listed) where
  abbrev idle : Store
  idle = store M T owed [] begun

  search-shape : count T ≤ table_rows → Shape n (store M T owed [] begun)
  search-shape few = record { owing = h.owing; big = omega (arith, h.owing.small 0); fits = few; blank = h.blank; room = omega arith }

  module _ (few : count T ≤ table_rows) {w j i : ℕ} {bs ts : List ℕ} (z : Sees n c w j i M T bs ts) where
    pub search-reads : Reads w j i bs owed ts × Below (length owed) listed
    search-reads = (reads_of {S = idle} (search-shape few) h.c-in z, λ i l. omega (arith, h.inside i l, h.owing.long))

    tells : (i' : ℕ) → i' < length listed → seen_bit w j i bs owed ts (get_or listed i' 0) ≡ bit_row n (rows_paid n M owed T (get_or listed i' 0)) c
    tells i' l = seen-is {S = idle} (search-shape few) h.c-in z (get_or listed i' 0) (h.inside i' l)

    found-at : (r : ℕ) → (r ≡ t + first_place (seen_bit w j i bs owed ts) (drop t listed)) × (r < length listed) → FoundAt n c t M owed T listed r
    found-at r e =
        record { from = omega (arith, e.0); inside = e.1; there = from_some (bit_row n) (rows_paid n M owed T) c (seen_bit w j i bs owed ts) listed t r h.place tells e.0 e.1 }

    pub search-found : (r : Option ℕ) → r ≡ place_from (seen_bit w j i bs owed ts) t listed → Found n c t M owed T listed r
    search-found r e =
        record {
          at = λ k q. found-at k (from_is (seen_bit w j i bs owed ts) t listed (sym e ∙ q));
          nowhere =
              λ q. from-none (bit_row n) (rows_paid n M owed T) c (seen_bit w j i bs owed ts) listed t (t + first_place (seen_bit w j i bs owed ts) (drop t listed)) h.place tells refl
              (from_past (seen_bit w j i bs owed ts) t listed (sym e ∙ q));
        }

-- ---- a column

module _ {n c o : ℕ} {M T : Mem} {owed log listed : List ℕ} {s : Stage} (h : ColumnIn n c o listed (store M T owed log s)) (inside : Below (count M) listed) where
  abbrev S : Store
  S = store M T owed log s

  pub search-in : SearchIn n c s.t M owed T listed
  search-in = record { owing = h.shape.owing; blank = h.shape.blank; inside = inside; place = h.place; c-in = h.c-in }

  module _ (extra : List ℕ) where
    abbrev column-of : Run Row → Reduced Row
    column-of = column_c (bit_row n) (mul_row n) (capacity log) listed extra c

    by : (q : math.Option ℕ) → first (bit_row n) (row_of (mul_row n) (late_of n S)) c (drop s.t listed) ≡ q
        → column_by_c (bit_row n) (mul_row n) (capacity log) listed extra c q (settle (mul_row n) (late_of n S)) ≡ column_c (bit_row n) (mul_row n) (capacity log) listed extra c (settle (mul_row n) (late_of n S))
    unfolding column_c settle
    by q e = sym (ap (λ x. column_by_c (bit_row n) (mul_row n) (capacity log) listed extra c x (settle (mul_row n) (late_of n S))) e)

    pub column-none : {r : Option ℕ} → Found n c s.t M owed T listed r → r ≡ None → Runs n (Within block_pivots) (column_c (bit_row n) (mul_row n) (capacity log) listed extra c) (store M T owed log s) (store M T owed log s)
    unfolding column_by_c
    column-none F l =
        record {
          meets = goes (late_of n S) (held-going n S h.going) (sym (by none (F.nowhere l))) (record { few = omega (arith, h.space.few); small = h.small });
          carries = carries-none h.shape;
        }

    module _ {r : ℕ} (F : FoundAt n c s.t M owed T listed r) where
      abbrev p : ℕ
      p = get_or listed s.t 0

      pub in_list : s.t < length listed
      in_list = omega (arith, F.from, F.inside)

      pub pivot-in : PivotIn n c (get_or listed s.t 0) (get_or listed r 0) o (store M T owed log s)
      pivot-in =
          record {
            ready = record { shape = h.shape; going = h.going; small = h.small; p-in = inside s.t in_list; f-in = inside r F.inside };
            finds =
                record {
                  rest = drop (suc s.t) listed;
                  found = found_left (bit_row n) (mul_row n) listed listed c s.t (get_or listed r 0) (rows_paid n M owed T) F.there;
                };
            space = h.space;
            c-in = h.c-in;
          }

      module _ {M' T' : Mem} {owed' log' : List ℕ} {s' : Stage}
          (D : Runs n (Clearing (bit_row n) (mul_row n) c (get_or listed s.t 0) s.g) (pivot_c (bit_row n) (mul_row n) (capacity log) (listed ++ extra) c (get_or listed s.t 0) (get_or listed r 0))
          (store M T owed log s) (store M' T' owed' log' s')) where
        abbrev S'' : Store
        S'' = store M' T' owed' log' s'

        by-pivot : and_then (pivot_c (bit_row n) (mul_row n) (capacity log) (listed ++ extra) c (get_or listed s.t 0) (get_or listed r 0) (settle (mul_row n) (late_of n S))) (λ q. done (counted q))
            ≡ column_c (bit_row n) (mul_row n) (capacity log) listed extra c (settle (mul_row n) (late_of n S))
        unfolding column_by_c settle
        by-pivot = by (some (get_or listed r 0)) F.there

        -- the same memory, with t counted up or not
        at-t : (b : Bool) (t' : ℕ) → Carries n (store M T owed log s) (store M' T' owed' log' (record { full = b; entries = s'.entries; t = t'; g = s'.g }))
        at-t b t' =
            let K = D.carries in
            let sh = K.shape in
            record {
              shape = record { owing = sh.owing; big = sh.big; fits = sh.fits; blank = sh.blank; room = sh.room };
              grows = K.grows;
              rows-keep = K.rows-keep;
              table-keep = K.table-keep;
              owed-len = K.owed-len;
              log-len = K.log-len;
              past = K.past;
            }

        pub column-full : s'.full ≡ true
            → Runs n (Within block_pivots) (column_c (bit_row n) (mul_row n) (capacity log) listed extra c) (store M T owed log s) (store M' T' owed' log' s')
        unfolding and_then
        column-full e =
            record {
              meets = stops (late_of n S'') (held-stopped n S'' e) (sym by-pivot ∙ ap (λ x. and_then x (λ y. done (counted y))) (runs-stopped D e));
              carries = D.carries;
            }

        pub column-done : s'.full ≡ false
            → Runs n (Within block_pivots) (column_c (bit_row n) (mul_row n) (capacity log) listed extra c) (store M T owed log s)
            (store M' T' owed' log' (record { full = false; entries = s'.entries; t = s.t + 1; g = s'.g }))
        unfolding held_by and_then counted settle
        column-done e =
            let m = runs-going D e in
            let u : s'.t ≡ s.t = subst (At s.t) m.0 (pivot-at (bit_row n) (mul_row n) (capacity log) (listed ++ extra) c (get_or listed s.t 0) (get_or listed r 0) (settle (mul_row n) (late_of n S))) in
            let up : s.t + 1 ≡ suc s'.t = add-one s.t ∙ ap suc (sym u) in
            let L'' = late_of n (store M' T' owed' log' (record { full = false; entries = s'.entries; t = s.t + 1; g = s'.g })) in
            record {
              meets = goes L'' refl
                  (sym by-pivot ∙ ap (λ x. and_then x (λ y. done (counted y))) m.0
                  ∙ ap (λ j. done (settle (mul_row n) (late_of n (store M' T' owed' log' (record { full = false; entries = s'.entries; t = j; g = s'.g }))))) (sym up))
                  (record {
                    few = omega (arith, m.1.count, h.space.few);
                    small = λ k. subst (λ j. get_or owed' k 0 < 2 ^ j) (sym m.1.count) (omega (arith, m.1.small k));
                  });
              carries = at-t false (s.t + 1);
            }

-- ---- a block

pub power-is : (g : ℕ) → g < block_pivots → (1 * 2 ^ g) % 2 ^ 8 ≡ 2 ^ g
power-is g h =
    let far : g < 8 = omega arith in
    let big : 2 ^ g < 2 ^ 8 = pow-lt far in
    ap (λ x. x % 2 ^ 8) (omega arith) ∙ mod-eq_of_lt big

-- two times the table fits while the block has room
twice : (g : ℕ) → g < block_pivots → 2 ^ g + 2 ^ g ≤ table_rows
twice g h = go (dec_lt g 5)
  where
    go : Dec (g < 5) → 2 ^ g + 2 ^ g ≤ table_rows
    go (yes l) = let q : 2 ^ g < 2 ^ 5 = pow-lt l in omega arith
    go (no l) = let e : g ≡ 5 = omega arith in omega (arith, ap (λ j. 2 ^ j) e)

module _ {n : ℕ} {T M : Mem} {owed : List ℕ} {s : Stage} (h : BeginIn n M owed T s) where
  pub begin-none : s.g < block_pivots → Began n T M owed s M owed s
  begin-none l =
      record {
        keeps = keeps-none h.owing.rows;
        owing = h.owing;
        owed-len = refl;
        small = h.small;
        few = l;
        going = h.going;
        same_entries = refl;
        same-t = refl;
        state = λ log t. refl;
      }

  pub begin-paid : {M' : Mem} {owed' : List ℕ} → PaidAll n M owed T M' owed' → Began n T M owed s M' owed' (record { full = false; entries = s.entries; t = s.t; g = 0 })
  begin-paid P =
      record {
        keeps = P.keeps;
        owing =
            record {
              rows = P.keeps.sound;
              table = h.owing.table;
              long = P.owed-len ∙ h.owing.long ∙ sym P.keeps.many;
              small = λ k. omega (arith, P.nothing k, h.owing.small 0);
            };
        owed-len = P.owed-len;
        small = λ k. omega (arith, P.nothing k);
        few = omega arith;
        going = refl;
        same_entries = refl;
        same-t = refl;
        state = λ log t. P.state s.g 0 log t;
      }

module _ {n c : ℕ} {M T : Mem} {owed log listed : List ℕ} {s : Stage} (h : StepIn n c listed (store M T owed log s)) where
  pub begin-in : BeginIn n M owed T s
  begin-in = record { owing = h.shape.owing; small = h.within.small; few = h.within.few; going = h.going }

  module _ {M' : Mem} {owed' : List ℕ} {s' : Stage} (B : Began n T M owed s M' owed' s') (whole : count T ≡ table_rows) where
    began-shape : Shape n (store M' T owed' log s')
    began-shape =
        record {
          owing = B.owing;
          big = omega (arith, twice s'.g B.few, whole);
          fits = h.shape.fits;
          blank = h.shape.blank;
          room = omega (arith, h.shape.room, B.same_entries);
        }

    pub column-in : (o : ℕ) → o ≡ 2 ^ s'.g → ColumnIn n c o listed (store M' T owed' log s')
    column-in o e =
        record {
          shape = began-shape;
          going = B.going;
          small = B.small;
          place = omega (arith, h.place, B.same-t);
          space = record { size = e; more = omega (arith, twice s'.g B.few, whole); few = B.few };
          c-in = h.c-in;
        }

    settle_is : settle (mul_row n) (late_of n (store M' T owed' log s')) ≡ settle (mul_row n) (late_of n (store M T owed log s))
    settle_is =
        B.state (pairs (take (s'.entries + s'.entries) log)) s'.t
        ∙ ap (λ e. settle (mul_row n) (lazy_of n M owed T s.g (pairs (take (e + e) log)) s'.t)) B.same_entries
        ∙ ap (λ t. settle (mul_row n) (lazy_of n M owed T s.g (pairs (take (s.entries + s.entries) log)) t)) B.same-t

    pub step_then : {I : Lazy Row → Type 0} {f : Run Row → Reduced Row} {R : Store} → Runs n I f (store M' T owed' log s') R → Runs n I f (store M T owed log s) R
    step_then {I} {f} {R} E =
        record {
          meets = subst (λ q. Meets (mul_row n) I (held_of n R) (f q)) settle_is E.meets;
          carries = carries-then
              (record {
                shape = began-shape;
                grows = omega (arith, B.same_entries);
                rows-keep = B.keeps;
                table-keep = keeps-none h.shape.owing.table;
                owed-len = B.owed-len;
                log-len = refl;
                past = λ _ _. refl;
              })
              E.carries;
        }

-- ---- the start, and the finish

pub start-shape : {n : ℕ} {M T : Mem} {owed : List ℕ} (log : List ℕ) → StartIn n M owed T → count T ≡ table_rows → Shape n (store M T owed log begun)
start-shape log h whole = record { owing = h.owing; big = omega (arith, whole); fits = omega (arith, whole); blank = h.blank; room = omega arith }

pub start-within : {n : ℕ} {M T : Mem} {owed : List ℕ} (log : List ℕ) → StartIn n M owed T → Within block_pivots (late_of n (store M T owed log begun))
start-within log h = record { few = omega arith; small = λ k. omega (arith, h.nothing k) }

run-eq : {σ σ' : ℕ → Row} {l : _} (t : ℕ) → σ ≡ σ' → ◌≡◌ {A = Run Row} (record { rows = σ; log = l; t = t }) (record { rows = σ'; log = l; t = t })
run-eq {σ} {σ'} {l} t p = λ i. record { rows = p i; log = l; t = t }

module _ {n : ℕ} {M₀ T₀ : Mem} {owed₀ log₀ : List ℕ} (h : StartIn n M₀ owed₀ T₀) {I : Lazy Row → Type 0} {f : Run Row → Reduced Row} {M T : Mem} {owed log : List ℕ} {s : Stage}
    (R : Runs n I f (store M₀ T₀ owed₀ log₀ begun) (store M T owed log s)) {M' : Mem} {owed' : List ℕ} (P : PaidAll n M owed T M' owed') where
  began-as : settle (mul_row n) (late_of n (store M₀ T₀ owed₀ log₀ begun)) ≡ run_of n M₀ log₀ start
  unfolding settle run_of
  began-as = run-eq 0 (all_paid (mul_row n) (late_of n (store M₀ T₀ owed₀ log₀ begun)) h.nothing)

  after-paid : Lazy Row
  after-paid = lazy_of n M' owed' T 0 (pairs (take (s.entries + s.entries) log)) s.t

  rows_left : row_of (mul_row n) (late_of n (store M T owed log s)) ≡ rows_of n M'
  unfolding settle after-paid
  rows_left =
      ap (λ (q : Run Row). q.rows) (sym (P.state s.g 0 (pairs (take (s.entries + s.entries) log)) s.t))
      ∙ all_paid (mul_row n) (lazy_of n M' owed' T 0 (pairs (take (s.entries + s.entries) log)) s.t) P.nothing

  finished : (b : Bool) → s.full ≡ b → outcome b (run_of n M' log (record { full = s.full; entries = s.entries; t = s.t })) ≡ f (run_of n M₀ log₀ start)
  unfolding outcome run_of settle
  finished false e = ap done (run-eq s.t (sym rows_left)) ∙ sym (runs-going R e).0 ∙ ap f began-as
  finished true e = ap (full (pairs (take (s.entries + s.entries) log))) (sym rows_left) ∙ sym (runs-stopped R e) ∙ ap f began-as

  pub all_done : Does n f M₀ log₀ start M' log (record { full = s.full; entries = s.entries; t = s.t })
  all_done =
      record {
        result = finished s.full refl;
        grows = omega arith;
        room = R.carries.shape.room;
        keeps =
            record {
              sound = P.keeps.sound;
              x_len = P.keeps.x_len ∙ R.carries.rows-keep.x_len;
              z-len = P.keeps.z-len ∙ R.carries.rows-keep.z-len;
              e-len = P.keeps.e-len ∙ R.carries.rows-keep.e-len;
              many = P.keeps.many ∙ R.carries.rows-keep.many;
            };
        log-len = R.carries.log-len;
        past = R.carries.past;
      }
