-- From the tests of a call to its answer, and to what its worker may ask. The number of a call is the first of its parts' numbers, so that where it is 0 all
-- parts have passed, and each part says what it leaves. Assumes nothing.
use mathlib.Core.Path.{◌≡◌, refl, sym, ap, ◌∙◌, subst}
use mathlib.Core.Bool.{Bool, false, cond, not, ◌||◌}
use mathlib.Core.List.{List}
use Prim.Native.Nat.{ℕ, ◌*◌, ◌≤◌, ◌<◌}
use borrow.Author.Tests.{leb-false, lt-ltb, le-ltb, eqb-true, not-false}
use lib.Dec.{eqb, leb}
use Rattle.encoding.specs.Limits.{max_rows, words_of}
use Rattle.encoding.specs.Set.{Mem, count, Valid, Sound}
use Rattle.pauli.specs.Lists.{every}
use Rattle.encoding.specs.Refusals.{least, smaller, done_or, set_lines, out_lines, state_lines, read_lines, Readable}
use Rattle.encoding.specs.declared.Refusal.{Refusal}
use Rattle.std.specs.Prelude.{Result, Ok, IfOk}
use Rattle.encoding.specs.Ranks.{by_rank, place_in, placed, joined}
use Rattle.encoding.proofs.Faults.{least-none, not-large, done_none, if-ok, ok-when, both-ok}
use Rattle.encoding.proofs.Ranks.{none-holds, Fitting, joined-fault}
use Rattle.encoding.proofs.WordLaws.{Fit}
use Rattle.encoding.proofs.Memory.{valid-of}
use Rattle.encoding.proofs.Sets.{sound-of, sound-when, read_none, shape_of}
use Rattle.encoding.proofs.Scan.{none_of}
use Rattle.cmpnt_list.specs.Calls.{clash_lines, pairwise_fault, matrix_lines}
use Rattle.cmpnt_list.specs.Workers.{AskedMatrix, BothReady, ThirdReady}

-- ---- parts of calls that stand by rank

pub both-parts-fit : (n k : ℕ) (L R : Mem) → Fitting (set_lines n L) (set_lines k R)
unfolding place_in least every
both-parts-fit n k L R = refl

module _ (n : ℕ) where
  pub matrix-parts : (M : Mem) (m size : ℕ) → Fitting (set_lines n M) (matrix_lines m size)
  unfolding place_in least every
  matrix-parts M m size = refl

  pub third-parts : (m q : ℕ) (O : Mem) → Fitting (clash_lines m q) (out_lines n O)
  unfolding place_in least every
  third-parts m q O = refl

  pub all-parts : (L R O : Mem) (m q : ℕ) → Fitting (joined (set_lines n L) (set_lines n R)) (joined (clash_lines m q) (out_lines n O))
  unfolding place_in placed joined least every
  all-parts L R O m q = refl

  pub state-parts : (M : Mem) (large : Bool) (st : List ℕ) → Fitting (read_lines n M large) (state_lines n st)
  unfolding place_in placed joined least every
  state-parts M large st = refl

-- ---- a set that is read, and numbers: from the number alone, where the words are of 64 bits

pub record Words64 (M : Mem) : Type 0 where
  pub x-fit : Fit M.xs
  pub z-fit : Fit M.zs
  pub p-fit : Fit M.es

pub asked_of : (n : ℕ) {M : Mem} → Words64 M → (large : Bool) → by_rank (read_lines n M large) ≡ 0 → Readable n M large
asked_of n {M} f large z =
    let p = read_none n M large z in
    record { ready = sound-of n M refl (valid-of n M f.x-fit f.z-fit f.p-fit) p.0; small = p.1 }

-- two numbers below their limits
pub both_small : (m r n q : ℕ) → (leb m r || leb n q) ≡ false → (r < m) × (q < n)
both_small m r n q e = let p = none_of (leb m r) (leb n q) e in (leb-false m r p.0, leb-false n q p.1)

-- ---- the matrix

pub matrix-many : (m size : ℕ) → max_rows < m → 2 ≡ by_rank (matrix_lines m size)
unfolding by_rank
matrix-many m size h = simp (lt-ltb _ _ h)

pub matrix-size : (m size : ℕ) {s : ℕ} (b : Bool) → m ≤ max_rows → s ≡ m * words_of m → not (eqb size s) ≡ b → cond b 3 0 ≡ by_rank (matrix_lines m size)
unfolding by_rank
matrix-size m size b h e q = simp (le-ltb _ _ h) (ap (λ (t : Bool). cond t 3 0) (sym q) ∙ ap (λ (k : ℕ). cond (not (eqb size k)) 3 0) e)

pub matrix-asked : (n : ℕ) (M : Mem) (size : ℕ) {f a b : Result Unit Refusal} → a ≡ done_or (by_rank (set_lines n M))
    → b ≡ done_or (by_rank (matrix_lines (count M) size)) → f ≡ smaller a b
    → IfOk a (λ _. Valid n (words_of n) M) → IfOk f (λ _. AskedMatrix n M size)
matrix-asked n M size {f} {a} {b} ea eb ef v = ok-when f (λ u e.
    let p = both-ok a b (sym ef ∙ e) in
    let no = none-holds (matrix_lines (count M) size) refl (done_none _ (sym eb ∙ p.1)) in
    record { ready = sound-when n M ea v p.0; fits = eqb-true size (count M * words_of (count M)) (not-false _ (no 1)) })

-- ---- two sets that are read, and a third that is written

pub both-ready : (n k : ℕ) (L R : Mem) {f a b : Result Unit Refusal} → a ≡ done_or (by_rank (set_lines n L)) → b ≡ done_or (by_rank (set_lines k R)) → f ≡ smaller a b
    → IfOk a (λ _. Valid n (words_of n) L) → IfOk b (λ _. Valid k (words_of k) R) → IfOk f (λ _. n ≡ k → BothReady n L R)
both-ready n k L R {f} {a} {b} ea eb ef v u = ok-when f (λ y e q.
    let p = both-ok a b (sym ef ∙ e) in
    record { left = sound-when n L ea v p.0; right = subst (λ (j : ℕ). Sound j R) (sym q) (sound-when k R eb u p.1) })

pub lengths-is : (m q : ℕ) → cond (not (eqb q m)) 3 0 ≡ by_rank (clash_lines m q)
unfolding by_rank
lengths-is m q = refl

pub third-ready : (n q : ℕ) (O : Mem) {f a b : Result Unit Refusal} → a ≡ done_or (by_rank (clash_lines (count O) q)) → b ≡ done_or (by_rank (out_lines n O)) → f ≡ smaller a b
    → IfOk f (λ _. ThirdReady n q O)
third-ready n q O {f} {a} {b} ea eb ef = ok-when f (λ u e.
    let p = both-ok a b (sym ef ∙ e) in
    let s = shape_of n O (done_none _ (sym eb ∙ p.1)) in
    record {
      numbers = eqb-true q (count O) (not-false _ (not-large 2 (not (eqb q (count O))) (lengths-is (count O) q ∙ done_none _ (sym ea ∙ p.0))));
      x-long = s.x-long;
      z-long = s.z-long;
      e-long = s.e-long;
    })

pub pairwise-asked : (n : ℕ) {L R : Mem} (O : Mem) (q : ℕ) → Words64 L → Words64 R → pairwise_fault n L R O q ≡ 0 → BothReady n L R
pairwise-asked n {L} {R} O q f g z =
    let ts = joined (set_lines n L) (set_lines n R) in
    let us = joined (clash_lines (count L) q) (out_lines n O) in
    let p = least-none (by_rank ts) (by_rank us) (joined-fault ts us (all-parts n L R O (count L) q) ∙ z) in
    let q = least-none (by_rank (set_lines n L)) (by_rank (set_lines n R)) (joined-fault (set_lines n L) (set_lines n R) (both-parts-fit n n L R) ∙ p.0) in
    record {
      left = sound-of n L refl (valid-of n L f.x-fit f.z-fit f.p-fit) q.0;
      right = sound-of n R refl (valid-of n R g.x-fit g.z-fit g.p-fit) q.1;
    }
