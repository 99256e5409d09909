-- A log with room for `capacity` entries: what `capped` is in each case, and that a loop which looks before each product whether its entry fits
-- (specs/Workers.antt) ends as `capped` says. Assumes nothing.
use Prim.Native.Nat.{ℕ, ◌<◌, ◌≤◌}
use native.Mathlib.Decide.{dec_le}
use native.Mathlib.Omega.{arith}
use mathlib.Core.Path.{◌≡◌, refl, sym, ap, ◌∙◌, subst}
use mathlib.Core.Bool.{Bool, true, false, cond, not, ◌&&◌}
use mathlib.Core.Option.{Option, none, some}
use mathlib.Core.List.{List, [], ◌∷◌, ◌++◌, append_assoc, append-nil}
use lib.Dec.{eqb, leb, ltb}
use lib.ListN.{length, get_or, take, drop, length-append}
use lib.Seq.{take_at}
use borrow.Author.Tests.{ltb-true, ltb-false, le-leb, lt-leb}
use Rattle.pauli.proofs.Bools.{cond_ind}
use Rattle.reduction.specs.Rule.{Entry, entry, Run, multiply, counted, first, clear, pivot, column_by, column, columns, reduce}
use Rattle.reduction.specs.Replay.{replay}
use Rattle.reduction.specs.Capacity.{Reduced, done, full, capped}
use Rattle.reduction.specs.Workers.{and_then, through, multiply_c, turn_c, lead_c, pivot_c, column_by_c, column_c}
use Rattle.reduction.proofs.Run.{Ext, ext-none, ext-step, ext-clear, ext-columns, ext-mono, replay-append}

module _ {R : Type 0} (bit : R → ℕ → Bool) (mul : R → R → R) (capacity : ℕ) (order listed extra : List ℕ) (σ : ℕ → R) where
  -- what the rule needs fits: the rule's run
  pub run_fits : let s = reduce bit mul order listed extra σ in (length s.log ≤ capacity → capped bit mul capacity order listed extra σ ≡ done s)
  unfolding capped
  run_fits h =
      let s = reduce bit mul order listed extra σ in
      let l = take capacity s.log in
      ap (λ b. cond b (done s) (full l (replay mul σ l))) (le-leb _ _ h)

  -- the rule needs more: the first entries, and the rows after them
  pub run-stops : let s = reduce bit mul order listed extra σ in let l = take capacity s.log in
      (capacity < length s.log → capped bit mul capacity order listed extra σ ≡ full l (replay mul σ l))
  unfolding capped
  run-stops h =
      let s = reduce bit mul order listed extra σ in
      let l = take capacity s.log in
      ap (λ b. cond b (done s) (full l (replay mul σ l))) (lt-leb _ _ h)

  -- and only then is it full
  pub full-long : (l : List Entry) (τ : ℕ → R) → capped bit mul capacity order listed extra σ ≡ full l τ → capacity < length (reduce bit mul order listed extra σ).log
  full-long l τ e = go (dec_le (length (reduce bit mul order listed extra σ).log) capacity)
    where
      go : Dec (length (reduce bit mul order listed extra σ).log ≤ capacity) → capacity < length (reduce bit mul order listed extra σ).log
      go (yes h) = absurd (let q = run_fits h in let z : ◌≡◌ {A = ℕ} 0 1 = cc in omega arith)
      go (no h) = omega arith

-- ---- the loop

abbrev Any : Entry → Type 0
Any e = Unit {0}

module _ {R : Type 0} (mul : R → R → R) (capacity : ℕ) where
  -- r is the run from s to s', cut to the capacity
  data Cut (s : Run R) (r : Reduced R) (s' : Run R) : Type 0 where
    fits : r ≡ done s' → length s'.log ≤ capacity → Cut s r s'
    stops : (l : List Entry) (e : Entry) (more : List Entry) → r ≡ full (s.log ++ l) (replay mul s.rows l) → length (s.log ++ l) ≡ capacity
        → s'.log ≡ s.log ++ l ++ (e ∷ more) → Cut s r s'

  cut-none : (s : Run R) → length s.log ≤ capacity → Cut s (done s) s
  cut-none s h = fits refl h

  cut_step : (a b : ℕ) (s : Run R) → length s.log ≤ capacity → Cut s (multiply_c mul capacity a b s) (multiply mul a b s)
  unfolding multiply_c multiply replay
  cut_step a b s h =
      cond_ind (λ r. Cut s r (multiply mul a b s)) (ltb (length s.log) capacity)
      (λ e. fits refl (omega (arith, ltb-true (length s.log) capacity e, length-append s.log (entry a b ∷ []))))
      (λ e. stops [] (entry a b) [] (ap (λ l. full l s.rows) (sym (append-nil s.log))) (omega (arith, ltb-false (length s.log) capacity e, ap length (append-nil s.log))) (ap (λ l. l ++ (entry a b ∷ [])) (sym (append-nil s.log))))

  -- a whole piece, and then a piece that may be cut
  cut-after : {s s1 s2 : Run R} {r : Reduced R} → Ext mul Any s s1 → Cut s1 r s2 → Cut s r s2
  cut-after x (fits e h) = fits e h
  cut-after {s} {s1} {s2} {r} x (stops l a more e h w) =
      let logs : s1.log ++ l ≡ s.log ++ (x.more ++ l) = ap (λ m. m ++ l) x.log_is ∙ append_assoc s.log x.more l in
      let rows : replay mul s1.rows l ≡ replay mul s.rows (x.more ++ l) = ap (λ τ. replay mul τ l) x.rows_are ∙ sym (replay-append mul s.rows x.more l) in
      stops (x.more ++ l) a more (e ∙ ap (λ m. full m (replay mul s1.rows l)) logs ∙ ap (λ τ. full (s.log ++ (x.more ++ l)) τ) rows)
      (ap length (sym logs) ∙ h) (w ∙ ap (λ m. m ++ (a ∷ more)) logs)

  cut-then : {s s1 s2 : Run R} {r : Reduced R} (f : Run R → Reduced R) → Cut s r s1 → Ext mul Any s s1 → Ext mul Any s1 s2
      → (length s1.log ≤ capacity → Cut s1 (f s1) s2) → Cut s (and_then r f) s2
  unfolding and_then
  cut-then {s} {s1} {s2} {r} f (fits e h) x y k = subst (λ q. Cut s q s2) (ap (λ q. and_then q f) (sym e)) (cut-after x (k h))
  cut-then {s} {s1} {s2} {r} f (stops l a more e h w) x y k =
      stops l a (more ++ y.more) (ap (λ q. and_then q f) e) h
      (y.log_is ∙ ap (λ m. m ++ y.more) w ∙ append_assoc (s.log ++ l) (a ∷ more) y.more)

module _ {R : Type 0} (bit : R → ℕ → Bool) (mul : R → R → R) (capacity : ℕ) where
  cut-clear : (c p : ℕ) (ks : List ℕ) (s : Run R) → length s.log ≤ capacity → Cut mul capacity s (through (turn_c bit mul capacity c p) ks s) (clear bit mul c p ks s)
  unfolding through turn_c clear
  cut-clear c p [] s h = cut-none mul capacity s h
  cut-clear c p (k ∷ ks) s h = go (not (eqb k p) && bit (s.rows k) c) (λ s'. cut-clear c p ks s')
    where
      go : (b : Bool) → ((s' : Run R) → length s'.log ≤ capacity → Cut mul capacity s' (through (turn_c bit mul capacity c p) ks s') (clear bit mul c p ks s'))
          → Cut mul capacity s (and_then (cond b (multiply_c mul capacity k p s) (done s)) (λ s'. through (turn_c bit mul capacity c p) ks s')) (clear bit mul c p ks (cond b (multiply mul k p s) s))
      go true rec =
          cut-then mul capacity (λ s'. through (turn_c bit mul capacity c p) ks s') (cut_step mul capacity k p s h) (ext-step mul k p s tt) (ext-clear bit mul c p ks (multiply mul k p s) (λ _ _ _. tt)) (rec (multiply mul k p s))
      go false rec =
          cut-then mul capacity (λ s'. through (turn_c bit mul capacity c p) ks s') (cut-none mul capacity s h) (ext-none mul s) (ext-clear bit mul c p ks s (λ _ _ _. tt)) (rec s)

  cut-counted : (s s' : Run R) (r : Reduced R) → Cut mul capacity s r s' → Cut mul capacity s (and_then r (λ s''. done (counted s''))) (counted s')
  unfolding and_then counted
  cut-counted s s' r (fits e h) = fits (ap (λ q. and_then q (λ s''. done (counted s''))) e) h
  cut-counted s s' r (stops l a more e h w) = stops l a more (ap (λ q. and_then q (λ s''. done (counted s''))) e) h w

  -- the run before t is counted up: the pivot by the row found, then the clearing
  cut-pivot : (all : List ℕ) (c p f : ℕ) (s : Run R) → length s.log ≤ capacity
      → Cut mul capacity s (pivot_c bit mul capacity all c p f s) (clear bit mul c p all (cond (eqb f p) s (multiply mul p f s)))
  unfolding pivot_c lead_c
  cut-pivot all c p f s h = go (eqb f p)
    where
      rest : Run R → Reduced R
      rest s' = through (turn_c bit mul capacity c p) all s'

      go : (b : Bool) → Cut mul capacity s (and_then (cond b (done s) (multiply_c mul capacity p f s)) (λ s'. through (turn_c bit mul capacity c p) all s'))
          (clear bit mul c p all (cond b s (multiply mul p f s)))
      go true = cut-then mul capacity rest (cut-none mul capacity s h) (ext-none mul s) (ext-clear bit mul c p all s (λ _ _ _. tt)) (cut-clear c p all s)
      go false =
          cut-then mul capacity rest (cut_step mul capacity p f s h) (ext-step mul p f s tt) (ext-clear bit mul c p all (multiply mul p f s) (λ _ _ _. tt)) (cut-clear c p all (multiply mul p f s))

  module _ (listed extra : List ℕ) where
    cut-column : (c : ℕ) (s : Run R) → length s.log ≤ capacity → Cut mul capacity s (column_c bit mul capacity listed extra c s) (column bit mul listed extra c s)
    unfolding column_c column column_by_c column_by pivot
    cut-column c s h = go (first bit s.rows c (drop s.t listed))
      where
        go : (o : Option ℕ) → Cut mul capacity s (column_by_c bit mul capacity listed extra c o s) (column_by bit mul listed extra c o s)
        go none = cut-none mul capacity s h
        go (some f) = cut-counted s _ _ (cut-pivot (listed ++ extra) c (get_or listed s.t 0) f s h)

    ext-any : (order : List ℕ) (s : Run R) → Ext mul Any s (columns bit mul listed extra order s)
    ext-any order s = ext-mono mul (λ _ _. tt) (ext-columns bit mul listed extra order s)

    ext-one : (c : ℕ) (s : Run R) → Ext mul Any s (column bit mul listed extra c s)
    unfolding columns
    ext-one c s = ext-any (c ∷ []) s

    cut-columns : (order : List ℕ) (s : Run R) → length s.log ≤ capacity → Cut mul capacity s (through (column_c bit mul capacity listed extra) order s) (columns bit mul listed extra order s)
    unfolding through columns
    cut-columns [] s h = cut-none mul capacity s h
    cut-columns (c ∷ cs) s h =
        cut-then mul capacity (λ s'. through (column_c bit mul capacity listed extra) cs s') (cut-column c s h) (ext-one c s) (ext-any cs (column bit mul listed extra c s))
        (λ h'. cut-columns cs (column bit mul listed extra c s) h')

    -- The loop that looks before each product whether its entry fits ends as `capped` says.
    pub stops-is-capped : (order : List ℕ) (σ : ℕ → R)
        → through (column_c bit mul capacity listed extra) order (record { rows = σ; log = []; t = 0 }) ≡ capped bit mul capacity order listed extra σ
    unfolding capped reduce
    stops-is-capped order σ = go (cut-columns order (record { rows = σ; log = []; t = 0 }) (omega arith))
      where
        s' : Run R
        s' = columns bit mul listed extra order (record { rows = σ; log = []; t = 0 })

        go : {r : Reduced R} → Cut mul capacity (record { rows = σ; log = []; t = 0 }) r s'
            → r ≡ cond (leb (length s'.log) capacity) (done s') (full (take capacity s'.log) (replay mul σ (take capacity s'.log)))
        go (fits e h) = e ∙ sym (ap (λ b. cond b (done s') (full (take capacity s'.log) (replay mul σ (take capacity s'.log)))) (le-leb _ _ h))
        go (stops l a more e h w) =
            let t : take capacity s'.log ≡ l = ap (λ m. take capacity m) w ∙ take_at l (a ∷ more) capacity h in
            let long : capacity < length s'.log = omega (arith, ap length w, length-append l (a ∷ more), h) in
            e ∙ sym (ap (λ b. cond b (done s') (full (take capacity s'.log) (replay mul σ (take capacity s'.log)))) (lt-leb _ _ long) ∙ ap (λ m. full m (replay mul σ m)) t)
