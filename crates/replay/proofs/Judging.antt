-- From memory to the verdict: the entries done in memory are the replay; the test of reduced form over memory is that over the rows; the verdict by its
-- parts. Assumes nothing.
use mathlib.Core.Path.{◌≡◌, refl, sym, ap, ap₂, ◌∙◌, subst}
use mathlib.Core.Logic.{inl, inr}
use mathlib.Core.Bool.{Bool, true, false, cond, not, ◌&&◌, ◌||◌}
use mathlib.Core.Option as math
use mathlib.Core.Option.{none, some}
use mathlib.Core.List.{List, [], ◌∷◌, ◌++◌}
use Prim.Native.Nat.{ℕ, ◌+◌, ◌/◌, ◌≤◌, ◌<◌}
use native.Mathlib.Omega.{arith}
use borrow.Author.Tests.{lt-leb}
use lib.Dec.{eqb}
use lib.ListN.{length, take}
use Rattle.std.specs.Prelude.{Option, Some, None}
use Rattle.pauli.specs.Row.{Row, mul_row, bit_row, same_row}
use Rattle.encoding.specs.Limits.{max_rows, words_of}
use Rattle.encoding.specs.Set.{Mem, count, rows_of, lay, Sound}
use Rattle.encoding.specs.Refusals.{too_large}
use Rattle.encoding.specs.Refusals as refusals
use Rattle.encoding.proofs.Memory.{laid, lay-back}
use Rattle.reduction.specs.Lists.{In, All, every}
use Rattle.reduction.specs.Rule.{Entry}
use Rattle.reduction.specs.Replay.{replay}
use Rattle.reduction.specs.Log.{pairs}
use Rattle.reduction.specs.Form.{zeros_in, only_in, reduced_from, reduced}
use Rattle.reduction.specs.Checker.{first_bad, first_diff, verdict_by, verdict, working, working_by}
use Rattle.reduction.specs.Demand.{Asked, Good}
use Rattle.reduction.proofs.Lists.{all-mono, in_left, in_right}
use Rattle.reduction.proofs.Log.{take-entries}
use Rattle.reduction.proofs.Entries.{bad-none}
use Rattle.terms.specs.Workers.{bit_in, mul_in}
use Rattle.terms.proofs.RowView.{bit-view, mul-view}
use Rattle.replay.specs.Check.{Task, task, Claim, claim, Passed, given, verdict_on}
use Rattle.replay.specs.Workers.{self, redone, found, Judged}
use Rattle.replay.specs.declared.Verdict.{Verdict}
use Rattle.replay.specs.declared.Verdict.TheVariants.{BadEntry, Differs, NotReduced, Yes}

-- ---- the entries done in memory

-- both numbers of an entry are rows
abbrev pub Inside : ℕ → Entry → Type 0
Inside m e = (e.target < m) × (e.source < m)

-- those of good entries are
pub good-inside : {N m : ℕ} {order listed extra : List ℕ} → Asked N m order listed extra → (es : List Entry) → All (Good listed extra) es → All (Inside m) es
good-inside {N} {m} {order} {listed} {extra} a es g =
    all-mono (λ d h. (a.rows_in d.target h.target-in, a.rows_in d.source (in_left d.source listed extra h.source_in))) es g

record Replayed (n : ℕ) (M : Mem) (σ : ℕ → Row) (M' : Mem) : Type 0 where
  sound : Sound n M'
  many : count M' ≡ count M
  rows_are : rows_of n M' ≡ σ

replayed : (n : ℕ) (M : Mem) (es : List Entry) → Sound n M → All (Inside (count M)) es → Replayed n M (replay (mul_row n) (rows_of n M) es) (redone n es M)
unfolding replay redone
replayed n M [] s h = record { sound = s; many = refl; rows_are = refl }
replayed n M (e ∷ es) s h =
    let N = mul_in n e.target e.source M in
    let v = mul-view s e.target e.source h.0.0 h.0.1 in
    let m : count N ≡ count M = v.keeps.many in
    let r = replayed n N es v.keeps.sound (all-mono (λ d i. (omega (arith, m, i.0), omega (arith, m, i.1))) es h.1) in
    record { sound = r.sound; many = r.many ∙ m; rows_are = r.rows_are ∙ ap (λ σ. replay (mul_row n) σ es) v.rows_are }

-- ---- the test of reduced form goes by the bits

module _ {R S : Type 0} (bit : R → ℕ → Bool) (σ : ℕ → R) (bit' : S → ℕ → Bool) (τ : ℕ → S) where
  every-same : (f g : ℕ → Bool) (ks : List ℕ) → ((k : ℕ) → In k ks → f k ≡ g k) → every f ks ≡ every g ks
  unfolding every
  every-same f g [] h = refl
  every-same f g (k ∷ ks) h = ap₂ (λ a b. a && b) (h k (inl refl)) (every-same f g ks (λ j m. h j (inr m)))

  test-same : (all rest order : List ℕ) → ((k : ℕ) → In k rest → In k all) → ((k c : ℕ) → In k all → In c order → bit (σ k) c ≡ bit' (τ k) c)
      → reduced_from bit σ all rest order ≡ reduced_from bit' τ all rest order
  unfolding reduced_from zeros_in only_in
  test-same all rest [] sub h = refl
  test-same all [] (c ∷ cs) sub h = refl
  test-same all (p ∷ rest) (c ∷ cs) sub h =
      let at : (k : ℕ) → In k all → bit (σ k) c ≡ bit' (τ k) c = λ k m. h k c m (inl refl) in
      let zero_in : every (λ k. not (bit (σ k) c)) (p ∷ rest) ≡ every (λ k. not (bit' (τ k) c)) (p ∷ rest) = every-same _ _ (p ∷ rest) (λ k m. ap not (at k (sub k m))) in
      let only-in : (bit (σ p) c && every (λ k. eqb k p || not (bit (σ k) c)) all) ≡ (bit' (τ p) c && every (λ k. eqb k p || not (bit' (τ k) c)) all)
      = ap₂ (λ a b. a && b) (at p (sub p (inl refl))) (every-same _ _ all (λ k m. ap (λ b. eqb k p || not b) (at k m))) in
      let more = test-same all (p ∷ rest) cs sub (λ k d m i. h k d m (inr i)) in
      let less = test-same all rest cs (λ k m. sub k (inr m)) (λ k d m i. h k d m (inr i)) in
      ap (λ z. cond z (reduced_from bit σ all (p ∷ rest) cs) (only_in bit σ c p all && reduced_from bit σ all rest cs)) zero_in
      ∙ ap₂ (λ a b. cond (zeros_in bit' τ c (p ∷ rest)) a b) more (ap₂ (λ a b. a && b) only-in less)

-- over a row set within the limits
form-view : {n : ℕ} {M : Mem} (order listed extra : List ℕ) → Sound n M → Asked (n + n) (count M) order listed extra
    → reduced (bit_in n M.xs M.zs) order listed extra self ≡ reduced (bit_row n) order listed extra (rows_of n M)
unfolding reduced
form-view {n} {M} order listed extra s a =
    test-same (bit_in n M.xs M.zs) self (bit_row n) (rows_of n M) (listed ++ extra) listed order (λ k. in_left k listed extra)
    (λ k c m i. bit-view s k c (a.rows_in k m) (a.columns-in c i))

-- ---- the rows compared

module _ (T : Task) (C : Mem) where
  -- the verdict on an empty log is by the first row that differs and by the form
  on-empty : {d : math.Option ℕ} {b : Bool} → first_diff (same_row T.n) (rows_of T.n T.start) (rows_of T.n C) 0 (count T.start) ≡ d
      → reduced (bit_row T.n) T.order T.listed T.extra (rows_of T.n T.start) ≡ b → verdict_by none d b ≡ verdict_on T (claim [] C)
  unfolding verdict first_bad replay pairs
  on-empty p q = sym (ap₂ (verdict_by none) p q)

  module _ (s : Passed T C) {d : Option ℕ} (e : found d ≡ first_diff (same_row T.n) (rows_of T.n T.start) (rows_of T.n C) 0 (count T.start)) where
    pub says-differs : {k : ℕ} → d ≡ Some k → Differs k ≡ given (verdict_on T (claim [] C))
    unfolding verdict_by
    says-differs h = ap given (on-empty (sym e ∙ ap found h) refl)

    module _ (h : d ≡ None) {b : Bool} (f : b ≡ reduced (bit_in T.n T.start.xs T.start.zs) T.order T.listed T.extra self) where
      says : verdict_by none none b ≡ verdict_on T (claim [] C)
      says = on-empty (sym e ∙ ap found h) (sym (f ∙ form-view T.order T.listed T.extra s.of-task.sound s.of-task.asked))

      pub says-yes : b ≡ true → Yes ≡ given (verdict_on T (claim [] C))
      unfolding verdict_by
      says-yes t = ap (λ x. given (verdict_by none none x)) (sym t) ∙ ap given says

      pub says-not-reduced : b ≡ false → NotReduced ≡ given (verdict_on T (claim [] C))
      unfolding verdict_by
      says-not-reduced t = ap (λ x. given (verdict_by none none x)) (sym t) ∙ ap given says

-- ---- the whole

pub none-large : (m : ℕ) (l : List ℕ) → ((k : ℕ) → In k l → k < m) → refusals.some (too_large m) l ≡ false
unfolding refusals.some
none-large m [] g = refl
none-large m (k ∷ l) g = ap₂ (λ a b. a || b) (lt-leb m k (g k (inl refl))) (none-large m l (λ j i. g j (inr i)))

-- no number of a list is past the limit
pub few : {N m : ℕ} {order listed extra : List ℕ} → Asked N m order listed extra → m ≤ max_rows → (refusals.some (too_large max_rows) listed ≡ false) × (refusals.some (too_large max_rows) extra ≡ false)
few {N} {m} {order} {listed} {extra} a h = (
  none-large max_rows listed (λ k i. omega (arith, a.rows_in k (in_left k listed extra i))),
  none-large max_rows extra (λ k i. omega (arith, a.rows_in k (in_right k listed extra i))),
)

module _ (T : Task) (L : Claim) (s : Passed T L.rows) {b : Option ℕ} (e : found b ≡ first_bad T.listed T.extra 0 (pairs L.log)) where
  -- a bad entry: the working rows are the starting rows still
  pub judge-bad : {k : ℕ} {M : Mem} {i : ℕ} → b ≡ Some i → k ≡ 0 → M ≡ redone T.n (take k (pairs L.log)) T.start → Judged T L (BadEntry i) M
  unfolding verdict verdict_by working working_by redone
  judge-bad {k} {M} {i} h z m =
      let n = T.n in
      let σ = rows_of n T.start in
      let p : first_bad T.listed T.extra 0 (pairs L.log) ≡ some i = sym e ∙ ap found h in
      record {
        answer =
            sym (ap (λ o. given (verdict_by o (first_diff (same_row n) (replay (mul_row n) σ (pairs L.log)) (rows_of n L.rows) 0 (count T.start))
            (reduced (bit_row n) T.order T.listed T.extra (replay (mul_row n) σ (pairs L.log))))) p);
        rows =
            m ∙ ap (λ j. redone n (take j (pairs L.log)) T.start) z
            ∙ sym (ap (λ o. lay n (count T.start) (working_by (mul_row n) o σ (pairs L.log))) p ∙ lay-back n (words_of n) s.of-task.sound.valid);
      }

  module _ (h : b ≡ None) where
    no-bad : first_bad T.listed T.extra 0 (pairs L.log) ≡ none
    no-bad = sym e ∙ ap found h

    inside : All (Inside (count T.start)) (pairs L.log)
    inside = good-inside s.of-task.asked (pairs L.log) (bad-none T.listed T.extra 0 (pairs L.log) no-bad)

    module _ {k : ℕ} {M : Mem} (z : k ≡ length L.log / 2) (m : M ≡ redone T.n (take k (pairs L.log)) T.start) where
      after : Replayed T.n T.start (replay (mul_row T.n) (rows_of T.n T.start) (pairs L.log)) M
      after =
          subst (Replayed T.n T.start (replay (mul_row T.n) (rows_of T.n T.start) (pairs L.log)))
          (sym (m ∙ ap (λ es. redone T.n es T.start) (ap (λ j. take j (pairs L.log)) z ∙ take-entries L.log)))
          (replayed T.n T.start (pairs L.log) s.of-task.sound inside)

      -- the rows after the replay can be compared
      pub judge-passed : Passed (task T.n M T.order T.listed T.extra) L.rows
      judge-passed =
          record {
            of-task =
                record {
                  sound = after.sound;
                  asked = subst (λ k. Asked (T.n + T.n) k T.order T.listed T.extra) (sym after.many) s.of-task.asked;
                  columns-once = s.of-task.columns-once;
                };
            of-claim = record { claimed-set = s.of-claim.claimed-set; as_many = s.of-claim.as_many ∙ sym after.many };
          }

      -- and what is said of them is the verdict on the claim
      pub judge-end : {r : Verdict} → r ≡ given (verdict_on (task T.n M T.order T.listed T.extra) (claim [] L.rows)) → Judged T L r M
      unfolding verdict working working_by first_bad replay pairs
      judge-end f =
          let n = T.n in
          let σ = rows_of n T.start in
          let τ = replay (mul_row n) σ (pairs L.log) in
          let diff : first_diff (same_row n) (rows_of n M) (rows_of n L.rows) 0 (count M) ≡ first_diff (same_row n) τ (rows_of n L.rows) 0 (count T.start)
          = ap₂ (λ ρ k. first_diff (same_row n) ρ (rows_of n L.rows) 0 k) after.rows_are after.many in
          let form : reduced (bit_row n) T.order T.listed T.extra (rows_of n M) ≡ reduced (bit_row n) T.order T.listed T.extra τ
          = ap (reduced (bit_row n) T.order T.listed T.extra) after.rows_are in
          record {
            answer =
                f ∙ ap given (ap₂ (verdict_by none) diff form
                ∙ sym (ap (λ o. verdict_by o (first_diff (same_row n) τ (rows_of n L.rows) 0 (count T.start)) (reduced (bit_row n) T.order T.listed T.extra τ)) no-bad));
            rows =
                laid n (words_of n) after.sound.valid after.rows_are ∙ ap (λ k. lay n k τ) after.many
                ∙ sym (ap (λ o. lay n (count T.start) (working_by (mul_row n) o σ (pairs L.log))) no-bad);
          }
