-- Pieces of a run in memory: nothing done, one entry, one piece after another, a loop over a list. A piece leaves the rule's run on its own part, room and lengths
-- kept (`Does`), so that pieces go together as the rule's do (`does-then`). Assumes nothing.
use Prim.Native.Nat.{ℕ, ◌+◌, ◌<◌, ◌≤◌}
use native.Mathlib.Omega.{arith}
use native.Mathlib.Numerals.{add-one}
use mathlib.Core.Path.{◌≡◌, refl, sym, ap, ◌∙◌, subst}
use mathlib.Core.Bool.{true, false, cond}
use mathlib.Core.List.{List, []}
use lib.ListN.{length, get_or, take, drop, set, length-set}
use lib.Seq.{get_or-set_other, drop-cons, drop-length}
use borrow.Author.Tests.{lt-ltb, le-ltb}
use Rattle.pauli.specs.Row.{Row, mul_row}
use Rattle.encoding.specs.Set.{Mem, count, rows_of}
use Rattle.reduction.specs.Rule.{Entry, Run, mul_at, multiply}
use Rattle.reduction.specs.Log.{pairs, capacity}
use Rattle.reduction.specs.Capacity.{Reduced, done, full}
use Rattle.reduction.specs.Workers.{and_then, through, multiply_c}
use Rattle.reduction.proofs.Log.{length-first}
use Rattle.late.specs.Workers.{Come}
use Rattle.terms.specs.Workers.{mul_in, Keeps, Ready, run_of, outcome, Does}
use Rattle.late.proofs.Turning.{logged-two}
use Rattle.late.proofs.View.{keeps-none, keeps_then}
use Rattle.terms.proofs.RowView.{Held, mul-view}

-- ---- pieces

module _ {n : ℕ} {M₀ : Mem} {log₀ : List ℕ} {s₀ : Come} {M : Mem} {log : List ℕ} {s : Come} where
  -- the same for an equal piece
  pub does-as : {f g : Run Row → Reduced Row} → f (run_of n M₀ log₀ s₀) ≡ g (run_of n M₀ log₀ s₀) → Does n f M₀ log₀ s₀ M log s → Does n g M₀ log₀ s₀ M log s
  does-as e L = record { result = L.result ∙ e; grows = L.grows; room = L.room; keeps = L.keeps; log-len = L.log-len; past = L.past }

  -- what is ready for the next piece
  pub ready-next : {f : Run Row → Reduced Row} → Does n f M₀ log₀ s₀ M log s → s.full ≡ false → Ready n M log s
  ready-next L e = record { sound = L.keeps.sound; room = L.room; going = e }

-- nothing is done
pub does-none : {n : ℕ} {M : Mem} {log : List ℕ} {s : Come} → Ready n M log s → Does n done M log s M log s
unfolding outcome
does-none {n} {M} {log} {s} h =
    record {
      result = ap (λ b. outcome b (run_of n M log s)) h.going;
      grows = omega arith;
      room = h.room;
      keeps = keeps-none h.sound;
      log-len = refl;
      past = λ _ _. refl;
    }

-- one piece after another; and a piece that is full
pub does-then : {n : ℕ} {M₀ : Mem} {log₀ : List ℕ} {s₀ : Come} {M₁ : Mem} {log₁ : List ℕ} {s₁ : Come} {M : Mem} {log : List ℕ} {s : Come} {f g : Run Row → Reduced Row}
    → Does n f M₀ log₀ s₀ M₁ log₁ s₁ → s₁.full ≡ false → Does n g M₁ log₁ s₁ M log s → Does n (λ r. and_then (f r) g) M₀ log₀ s₀ M log s
unfolding and_then outcome
does-then {n} {M₀} {log₀} {s₀} {M₁} {log₁} {s₁} {M} {log} {s} {f} {g} K e L =
    record {
      result = L.result ∙ ap (λ r. and_then r g) (sym (ap (λ b. outcome b (run_of n M₁ log₁ s₁)) e) ∙ K.result);
      grows = omega (arith, K.grows, L.grows);
      room = L.room;
      keeps = keeps_then K.keeps L.keeps;
      log-len = L.log-len ∙ K.log-len;
      past = λ j hj. L.past j hj ∙ K.past j (omega (arith, L.grows));
    }

pub does-full : {n : ℕ} {M₀ : Mem} {log₀ : List ℕ} {s₀ : Come} {M : Mem} {log : List ℕ} {s : Come} {f : Run Row → Reduced Row} (g : Run Row → Reduced Row)
    → Does n f M₀ log₀ s₀ M log s → s.full ≡ true → Does n (λ r. and_then (f r) g) M₀ log₀ s₀ M log s
unfolding and_then outcome
does-full {n} {M₀} {log₀} {s₀} {M} {log} {s} {f} g K e =
    record {
      result =
          ap (λ b. outcome b (run_of n M log s)) e
          ∙ ap (λ r. and_then r g) (sym (ap (λ b. outcome b (run_of n M log s)) e) ∙ K.result);
      grows = K.grows;
      room = K.room;
      keeps = K.keeps;
      log-len = K.log-len;
      past = K.past;
    }

-- ---- one entry

run-eq : {σ σ' : ℕ → Row} {l l' : List Entry} (t : ℕ) → σ ≡ σ' → l ≡ l' → ◌≡◌ {A = Run Row} (record { rows = σ; log = l; t = t }) (record { rows = σ'; log = l'; t = t })
run-eq t p q = λ i. record { rows = p i; log = q i; t = t }

module _ {n : ℕ} {M : Mem} {log : List ℕ} {s : Come} (ready : Ready n M log s) (a b : ℕ) where
  there : length (pairs (take (s.entries + s.entries) log)) ≡ s.entries
  there = length-first s.entries log ready.room

  pub put_full : capacity log ≤ s.entries → Does n (multiply_c (mul_row n) (capacity log) a b) M log s M log (record { full = true; entries = s.entries; t = s.t })
  unfolding multiply_c run_of outcome
  put_full h =
      record {
        result =
            sym (ap (λ x. cond x (done (multiply (mul_row n) a b (run_of n M log s))) (full (pairs (take (s.entries + s.entries) log)) (rows_of n M)))
            (le-ltb (length (pairs (take (s.entries + s.entries) log))) (capacity log) (omega (arith, there))));
        grows = omega arith;
        room = ready.room;
        keeps = keeps-none ready.sound;
        log-len = refl;
        past = λ _ _. refl;
      }

  pub put-done : {M' : Mem} → M' ≡ mul_in n a b M → a < count M → b < count M → s.entries < capacity log
      → Does n (multiply_c (mul_row n) (capacity log) a b) M log s M' (set (set log (s.entries + s.entries) a) (s.entries + s.entries + 1) b) (record { full = false; entries = s.entries + 1; t = s.t })
  unfolding multiply_c multiply run_of outcome
  put-done {M'} e ha hb h =
      let m = s.entries + s.entries in
      let held : Held n (mul_at (mul_row n) (rows_of n M) a b) M M' = subst (λ N. Held n (mul_at (mul_row n) (rows_of n M) a b) M N) (sym e) (mul-view ready.sound a b ha hb) in
      record {
        result =
            ap (λ r. done r)
            (run-eq s.t held.rows_are (logged-two s.entries log a b h))
            ∙ sym (ap (λ x. cond x (done (multiply (mul_row n) a b (run_of n M log s))) (full (pairs (take m log)) (rows_of n M))) (lt-ltb (length (pairs (take m log))) (capacity log) (omega (arith, there))));
        grows = omega arith;
        room = simp length-set (omega arith);
        keeps = held.keeps;
        log-len = simp length-set;
        past = λ j hj. get_or-set_other (set log m a) (m + 1) j b 0 (omega arith) ∙ get_or-set_other log m j a 0 (omega arith);
      }

-- ---- a loop over a list

-- what is left of the list, done from here, gives what the whole list gives from the start
pub record Going (n : ℕ) (f : ℕ → Run Row → Reduced Row) (list : List ℕ) (M₀ : Mem) (log₀ : List ℕ) (s₀ : Come) (M : Mem) (log : List ℕ) (s : Come) (i : ℕ) : Type 0 where
  pub place : i ≤ length list
  pub ready : Ready n M log s
  pub grows : s₀.entries ≤ s.entries
  pub keeps : Keeps n M₀ M
  pub log-len : length log ≡ length log₀
  pub past : (j : ℕ) → s.entries + s.entries ≤ j → get_or log j 0 ≡ get_or log₀ j 0
  pub left : through f (drop i list) (run_of n M log s) ≡ through f list (run_of n M₀ log₀ s₀)

pub going_start : {n : ℕ} {M : Mem} {log : List ℕ} {s : Come} (f : ℕ → Run Row → Reduced Row) (list : List ℕ) → Ready n M log s → Going n f list M log s M log s 0
going_start f list h = record { place = omega arith; ready = h; grows = omega arith; keeps = keeps-none h.sound; log-len = refl; past = λ _ _. refl; left = refl }

module _ {n : ℕ} {f : ℕ → Run Row → Reduced Row} {list : List ℕ} {M₀ : Mem} {log₀ : List ℕ} {s₀ : Come} {M : Mem} {log : List ℕ} {s : Come} {i : ℕ}
    (g : Going n f list M₀ log₀ s₀ M log s i) where
  through-at : i < length list → through f (drop i list) (run_of n M log s) ≡ and_then (f (get_or list i 0) (run_of n M log s)) (λ r. through f (drop (i + 1) list) r)
  unfolding through
  through-at h = rw (add-one, drop-cons list i 0 h)

  pub going_next : {M' : Mem} {log' : List ℕ} {s' : Come} → i < length list → s'.full ≡ false → Does n (f (get_or list i 0)) M log s M' log' s' → Going n f list M₀ log₀ s₀ M' log' s' (i + 1)
  unfolding and_then outcome
  going_next {M'} {log'} {s'} h e L =
      record {
        place = omega arith;
        ready = ready-next L e;
        grows = omega (arith, L.grows, g.grows);
        keeps = keeps_then g.keeps L.keeps;
        log-len = L.log-len ∙ g.log-len;
        past = λ j hj. L.past j hj ∙ g.past j (omega (arith, L.grows));
        left = sym (through-at h ∙ ap (λ r. and_then r (λ r'. through f (drop (i + 1) list) r')) (sym L.result ∙ ap (λ b. outcome b (run_of n M' log' s')) e)) ∙ g.left;
      }

  pub going-full : {M' : Mem} {log' : List ℕ} {s' : Come} → i < length list → s'.full ≡ true → Does n (f (get_or list i 0)) M log s M' log' s' → Does n (through f list) M₀ log₀ s₀ M' log' s'
  unfolding and_then outcome
  going-full {M'} {log'} {s'} h e L =
      record {
        grows = omega (arith, L.grows, g.grows);
        room = L.room;
        keeps = keeps_then g.keeps L.keeps;
        log-len = L.log-len ∙ g.log-len;
        past = λ j hj. L.past j hj ∙ g.past j (omega (arith, L.grows));
        result =
            ap (λ b. outcome b (run_of n M' log' s')) e
            ∙ sym (through-at h ∙ ap (λ r. and_then r (λ r'. through f (drop (i + 1) list) r')) (sym L.result ∙ ap (λ b. outcome b (run_of n M' log' s')) e)) ∙ g.left;
      }

  pub going_end : length list ≤ i → Does n (through f list) M₀ log₀ s₀ M log s
  unfolding through outcome
  going_end h =
      let e : drop i list ≡ [] = let q : i ≡ length list = omega (arith, g.place) in ap (λ m. drop m list) q ∙ drop-length list in
      record {
        grows = g.grows;
        room = g.ready.room;
        keeps = g.keeps;
        log-len = g.log-len;
        past = g.past;
        result = ap (λ b. outcome b (run_of n M log s)) g.ready.going ∙ sym (ap (λ m. through f m (run_of n M log s)) e) ∙ g.left;
      }
