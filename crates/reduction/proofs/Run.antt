-- What the rule's run does, an entry after another: its rows are the replay of its log, and each entry multiplies a listed or extra row by another
-- listed row from place t on. Assumes nothing.
use Prim.Native.Nat.{ℕ, suc}
use mathlib.Core.Path.{◌≡◌, refl, sym, ap, ◌∙◌, subst}
use mathlib.Core.Logic.{inl, inr, ⊎_elim}
use mathlib.Core.Bool.{Bool, true, false, not, ◌&&◌}
use mathlib.Core.Option.{Option, none, some}
use mathlib.Core.List.{List, [], ◌∷◌, ◌++◌, append_assoc, append-nil}
use lib.Dec.{eqb}
use lib.ListN.{get_or, drop}
use borrow.Author.Tests.{eqb-true, eqb-false, not-true}
use Rattle.pauli.proofs.Bools.{cond_ind, and_left}
use Rattle.reduction.specs.Lists.{In, All}
use Rattle.reduction.specs.Rule.{Entry, entry, Run, mul_at, multiply, counted, first, clear, pivot, column_by, column, columns, reduce}
use Rattle.reduction.specs.Replay.{replay}
use Rattle.reduction.specs.Demand.{Good}
use Rattle.reduction.proofs.Lists.{all-mono, all_append, in_left, in-drop, in-drop-suc, drop-in, none≢some}

module _ {R : Type 0} (mul : R → R → R) where
  -- a row after a product: the target's, or as before
  pub mul_at-ind : (P : R → Type 0) (σ : ℕ → R) (a b k : ℕ) → (k ≡ a → P (mul (σ a) (σ b))) → ((k ≡ a → ⊥) → P (σ k)) → P (mul_at mul σ a b k)
  unfolding mul_at
  mul_at-ind P σ a b k f g = cond_ind P (eqb k a) (λ e. f (eqb-true k a e)) (λ e. g (eqb-false k a e))

  pub replay-append : (σ : ℕ → R) (es fs : List Entry) → replay mul σ (es ++ fs) ≡ replay mul (replay mul σ es) fs
  unfolding replay
  replay-append σ [] fs = refl
  replay-append σ (e ∷ es) fs = replay-append (mul_at mul σ e.target e.source) es fs

-- s' is s after some entries more, each of them Q
pub record Ext {R : Type 0} (mul : R → R → R) (Q : Entry → Type 0) (s s' : Run R) : Type 0 where
  pub more : List Entry
  pub log_is : s'.log ≡ s.log ++ more
  pub rows_are : s'.rows ≡ replay mul s.rows more
  pub each : All Q more

module _ {R : Type 0} (mul : R → R → R) where
  pub ext-none : {Q : Entry → Type 0} (s : Run R) → Ext mul Q s s
  unfolding replay
  ext-none s = record { more = []; log_is = sym (append-nil s.log); rows_are = refl; each = tt }

  pub ext-then : {Q : Entry → Type 0} {s s' s'' : Run R} → Ext mul Q s s' → Ext mul Q s' s'' → Ext mul Q s s''
  ext-then {Q} {s} {s'} {s''} e f =
      record {
        more = e.more ++ f.more;
        log_is = f.log_is ∙ ap (λ l. l ++ f.more) e.log_is ∙ append_assoc s.log e.more f.more;
        rows_are = f.rows_are ∙ ap (λ σ. replay mul σ f.more) e.rows_are ∙ sym (replay-append mul s.rows e.more f.more);
        each = all_append Q e.more f.more e.each f.each;
      }

  pub ext-step : {Q : Entry → Type 0} (a b : ℕ) (s : Run R) → Q (entry a b) → Ext mul Q s (multiply mul a b s)
  unfolding multiply replay
  ext-step a b s q = record { more = entry a b ∷ []; log_is = refl; rows_are = refl; each = (q, tt) }

  pub ext-mono : {Q Q' : Entry → Type 0} {s s' : Run R} → ((e : Entry) → Q e → Q' e) → Ext mul Q s s' → Ext mul Q' s s'
  ext-mono f e = record { more = e.more; log_is = e.log_is; rows_are = e.rows_are; each = all-mono f e.more e.each }

module _ {R : Type 0} (bit : R → ℕ → Bool) where
  pub first-none : (σ : ℕ → R) (c : ℕ) (ks : List ℕ) → first bit σ c ks ≡ none → (k : ℕ) → In k ks → bit (σ k) c ≡ false
  unfolding first
  first-none σ c [] = λ e k m. absurd m
  first-none σ c (x ∷ ks) =
      cond_ind (λ o. o ≡ none → (k : ℕ) → In k (x ∷ ks) → bit (σ k) c ≡ false) (bit (σ x) c)
      (λ e o. absurd (none≢some (sym o)))
      (λ e o k. ⊎_elim (λ q. ap (λ j. bit (σ j) c) q ∙ e) (λ m. first-none σ c ks o k m))

  pub first_some : (σ : ℕ → R) (c : ℕ) (ks : List ℕ) (f : ℕ) → first bit σ c ks ≡ some f → In f ks × (bit (σ f) c ≡ true)
  unfolding first
  first_some σ c [] f = λ e. absurd (none≢some e)
  first_some σ c (x ∷ ks) f =
      cond_ind (λ o. o ≡ some f → In f (x ∷ ks) × (bit (σ f) c ≡ true)) (bit (σ x) c)
      (λ e o. let q : f ≡ x = cc in (inl q, ap (λ j. bit (σ j) c) q ∙ e))
      (λ e o. let r = first_some σ c ks f o in (inr r.0, r.1))

  -- the first of the list has the bit only if it is the row found
  pub first_head : (σ : ℕ → R) (c : ℕ) (x : ℕ) (ks : List ℕ) (f : ℕ) → first bit σ c (x ∷ ks) ≡ some f → (f ≡ x → ⊥) → bit (σ x) c ≡ false
  unfolding first
  first_head σ c x ks f =
      cond_ind (λ o. o ≡ some f → (f ≡ x → ⊥) → bit (σ x) c ≡ false) (bit (σ x) c)
      (λ e o n. absurd (n (cc)))
      (λ e o n. e)

module _ {R : Type 0} (bit : R → ℕ → Bool) (mul : R → R → R) where
  -- clearing and a pivot, by the entries they do
  pub ext-clear : {Q : Entry → Type 0} (c p : ℕ) (ks : List ℕ) (s : Run R) → ((k : ℕ) → In k ks → (k ≡ p → ⊥) → Q (entry k p)) → Ext mul Q s (clear bit mul c p ks s)
  unfolding clear
  ext-clear c p [] s q = ext-none mul s
  ext-clear {Q} c p (k ∷ ks) s q =
      ext-then mul
      (cond_ind (λ s'. Ext mul Q s s') (not (eqb k p) && bit (s.rows k) c)
      (λ e. ext-step mul k p s (q k (inl refl) (eqb-false k p (not-true (eqb k p) (and_left _ _ e)))))
      (λ e. ext-none mul s))
      (ext-clear c p ks _ (λ j m. q j (inr m)))

  pub step-t : (a b : ℕ) (s : Run R) → (multiply mul a b s).t ≡ s.t
  unfolding multiply
  step-t a b s = refl

  pub clear-t : (c p : ℕ) (ks : List ℕ) (s : Run R) → (clear bit mul c p ks s).t ≡ s.t
  unfolding clear
  clear-t c p [] s = refl
  clear-t c p (k ∷ ks) s =
      clear-t c p ks _ ∙ cond_ind (λ (s' : Run R). s'.t ≡ s.t) (not (eqb k p) && bit (s.rows k) c) (λ e. step-t k p s) (λ e. refl)

  pub pivot-t : (all : List ℕ) (c p f : ℕ) (s : Run R) → (pivot bit mul all c p f s).t ≡ suc s.t
  unfolding pivot counted
  pivot-t all c p f s =
      ap suc (clear-t c p all _ ∙ cond_ind (λ (s' : Run R). s'.t ≡ s.t) (eqb f p) (λ e. refl) (λ e. step-t p f s))

  pub ext-counted : {Q : Entry → Type 0} {s s' : Run R} → Ext mul Q s s' → Ext mul Q s (counted s')
  unfolding counted
  ext-counted e = record { more = e.more; log_is = e.log_is; rows_are = e.rows_are; each = e.each }

  pub ext-pivot : {Q : Entry → Type 0} (all : List ℕ) (c p f : ℕ) (s : Run R)
      → ((f ≡ p → ⊥) → Q (entry p f)) → ((k : ℕ) → In k all → (k ≡ p → ⊥) → Q (entry k p)) → Ext mul Q s (pivot bit mul all c p f s)
  unfolding pivot
  ext-pivot {Q} all c p f s q r =
      ext-counted
      (ext-then mul
      (cond_ind (λ s'. Ext mul Q s s') (eqb f p) (λ e. ext-none mul s) (λ e. ext-step mul p f s (q (eqb-false f p e))))
      (ext-clear c p all _ r))

-- an entry of a run that has come to t pivots, or to more
pub record Reach (listed extra : List ℕ) (t : ℕ) (e : Entry) : Type 0 where
  pub target-in : In e.target (listed ++ extra)
  pub source_in : In e.source (drop t listed)
  pub other : e.target ≡ e.source → ⊥

module _ {R : Type 0} (bit : R → ℕ → Bool) (mul : R → R → R) (listed extra : List ℕ) where
  pub col-ind : (P : Run R → Type 0) (c : ℕ) (s : Run R)
      → (first bit s.rows c (drop s.t listed) ≡ none → P s)
      → ((f : ℕ) → first bit s.rows c (drop s.t listed) ≡ some f → P (pivot bit mul (listed ++ extra) c (get_or listed s.t 0) f s))
      → P (column bit mul listed extra c s)
  unfolding column column_by
  col-ind P c s n f = go (first bit s.rows c (drop s.t listed)) refl
    where
      go : (o : Option ℕ) → first bit s.rows c (drop s.t listed) ≡ o → P (column_by bit mul listed extra c o s)
      go none e = n e
      go (some k) e = f k e

  -- where a row is found, the rows left begin with the pivot
  pub split-left : (c t f : ℕ) (σ : ℕ → R) → first bit σ c (drop t listed) ≡ some f → drop t listed ≡ get_or listed t 0 ∷ drop (suc t) listed
  split-left c t f σ e = drop-in f t listed (first_some bit σ c (drop t listed) f e).0

  pub head-left : (c t f : ℕ) (σ : ℕ → R) → first bit σ c (drop t listed) ≡ some f → In (get_or listed t 0) (drop t listed)
  head-left c t f σ e = subst (λ l. In (get_or listed t 0) l) (sym (split-left c t f σ e)) (inl refl)

  pub head_in : (c t f : ℕ) (σ : ℕ → R) → first bit σ c (drop t listed) ≡ some f → In (get_or listed t 0) (listed ++ extra)
  head_in c t f σ e = in_left (get_or listed t 0) listed extra (in-drop (get_or listed t 0) t listed (head-left c t f σ e))

  pub found_left : (c t f : ℕ) (σ : ℕ → R) → first bit σ c (drop t listed) ≡ some f → first bit σ c (get_or listed t 0 ∷ drop (suc t) listed) ≡ some f
  found_left c t f σ e = subst (λ l. first bit σ c l ≡ some f) (split-left c t f σ e) e

  -- the entries of a pivot
  pub ext-found : (c f : ℕ) (s : Run R) → first bit s.rows c (drop s.t listed) ≡ some f
      → Ext mul (Reach listed extra s.t) s (pivot bit mul (listed ++ extra) c (get_or listed s.t 0) f s)
  ext-found c f s e =
      let p = get_or listed s.t 0 in
      let hp = head-left c s.t f s.rows e in
      ext-pivot bit mul (listed ++ extra) c p f s
      (λ n. record {
        target-in = head_in c s.t f s.rows e;
        source_in = (first_some bit s.rows c (drop s.t listed) f e).0;
        other = λ q. n (sym q);
      })
      (λ k m n. record { target-in = m; source_in = hp; other = n })

  -- what has come to one pivot more
  reach-less : (t : ℕ) (e : Entry) → Reach listed extra (suc t) e → Reach listed extra t e
  reach-less t e r = record { target-in = r.target-in; source_in = in-drop-suc e.source t listed r.source_in; other = r.other }

  pub ext-columns : (order : List ℕ) (s : Run R) → Ext mul (Reach listed extra s.t) s (columns bit mul listed extra order s)
  unfolding columns
  ext-columns [] s = ext-none mul s
  ext-columns (c ∷ cs) s =
      col-ind (λ s'. Ext mul (Reach listed extra s.t) s (columns bit mul listed extra cs s')) c s
      (λ e. ext-columns cs s)
      (λ f e.
      let p = get_or listed s.t 0 in
      let s' = pivot bit mul (listed ++ extra) c p f s in
      ext-then mul {s' = s'} (ext-found c f s e)
      (ext-mono mul (reach-less s.t)
      (subst (λ n. Ext mul (Reach listed extra n) s' (columns bit mul listed extra cs s')) (pivot-t bit mul (listed ++ extra) c p f s) (ext-columns cs s'))))

-- Replaying the rule's log gives the rule's rows.
pub run-replay : {R : Type 0} (bit : R → ℕ → Bool) (mul : R → R → R) (order listed extra : List ℕ) (σ : ℕ → R)
    → let s = reduce bit mul order listed extra σ in (replay mul σ s.log ≡ s.rows)
unfolding reduce
run-replay bit mul order listed extra σ =
    let e = ext-columns bit mul listed extra order (record { rows = σ; log = []; t = 0 }) in
    ap (λ l. replay mul σ l) e.log_is ∙ sym e.rows_are

-- The rule's entries multiply a listed or extra row by another, listed row.
pub run-good : {R : Type 0} (bit : R → ℕ → Bool) (mul : R → R → R) (order listed extra : List ℕ) (σ : ℕ → R)
    → All (Good listed extra) (reduce bit mul order listed extra σ).log
unfolding reduce
run-good bit mul order listed extra σ =
    let e = ext-columns bit mul listed extra order (record { rows = σ; log = []; t = 0 }) in
    subst (λ l. All (Good listed extra) l) (sym e.log_is)
    (all-mono (λ e' r. record { target-in = r.target-in; source_in = r.source_in; other = r.other }) e.more e.each)
