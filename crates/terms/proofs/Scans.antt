-- Scans of an order and of lists: a number too large, a number there twice; and that nothing refused is what the theorems ask. Marks are set for the numbers passed,
-- so that a number is there twice exactly if it finds one. Assumes nothing.
pub use Rattle.late.proofs.Words.{any_some, all_every}
use mathlib.Core.Path.{◌≡◌, refl, sym, ap, ap₂, ◌∙◌, subst}
use mathlib.Core.Logic.{⊎_elim}
use mathlib.Core.Bool.{Bool, true, false, cond, not, ◌&&◌, ◌||◌}
use mathlib.Core.List.{List, [], ◌∷◌}
use Prim.Native.Nat.{ℕ, ◌+◌, ◌-◌, ◌≤◌, ◌<◌}
use native.Mathlib.Decide.{dec_le}
use native.Mathlib.Nat.{add-zero}
use native.Mathlib.Numerals.{add-one}
use native.Mathlib.Omega.{arith}
use borrow.Author.Tests.{le-leb, lt-leb, leb-false, eq-eqb, ne_eqb, not-false}
use lib.Dec.{leb, eqb}
use lib.ListN.{length, get_or, drop, set, drop_of_length-le}
use lib.Seq.{drop-cons, get_or-set_same, get_or-set_other}
use Rattle.encoding.specs.Refusals.{some, too_large}
use Rattle.encoding.proofs.Scan.{none_of, some-none, some-never}
use Rattle.encoding.proofs.Ranks.{none-holds}
use Rattle.pauli.proofs.Bools.{not_so}
use Rattle.reduction.specs.Lists.{In, has, Distinct, distinct, every}
use Rattle.reduction.specs.Demand.{Asked}
use Rattle.reduction.proofs.Lists.{distinct→, place_of, in_either, same?, →every, most-below}
use Rattle.encoding.specs.Ranks.{by_rank}
use Rattle.terms.specs.Refused.{large_number, repeated, list_lines}
use Rattle.terms.specs.Workers.{Blank}

-- ---- a + b or above, without the sum

pub below-part : (a b k : ℕ) → k < a → false ≡ too_large (a + b) k
below-part a b k h = sym (lt-leb (a + b) k (omega arith))

pub above-part : (a b k : ℕ) → a ≤ k → leb b (k - a) ≡ too_large (a + b) k
above-part a b k h = go (dec_le b (k - a))
  where
    go : Dec (b ≤ k - a) → leb b (k - a) ≡ leb (a + b) k
    go (yes l) = le-leb b (k - a) l ∙ sym (le-leb (a + b) k (omega arith))
    go (no l) = lt-leb b (k - a) (omega arith) ∙ sym (lt-leb (a + b) k (omega arith))

-- ---- a number there twice, by marks: what is left of the list has no repeat and finds no mark exactly when the whole list has no repeat

abbrev free : List ℕ → ℕ → Bool
free marks k = eqb (get_or marks k 0) 0

abbrev pub Marking : List ℕ → ℕ → List ℕ → Type 0
Marking l i marks = (every (free marks) (drop i l) && distinct (drop i l)) ≡ distinct l

-- after marking k, those are free that were and are not k
every_set : (marks ks : List ℕ) (k : ℕ) → k < length marks → every (free (set marks k 1)) ks ≡ (not (has k ks) && every (free marks) ks)
unfolding has every
every_set marks [] k h = refl
every_set marks (j ∷ ks) k h = ⊎_elim at (off (every_set marks ks k h)) (same? j k)
  where
    at : j ≡ k → (free (set marks k 1) j && every (free (set marks k 1)) ks) ≡ (not (eqb k j || has k ks) && (free marks j && every (free marks) ks))
    at e =
        ap (λ v. eqb v 0 && every (free (set marks k 1)) ks) (ap (λ t. get_or (set marks k 1) t 0) e ∙ get_or-set_same marks k 1 0 h)
        ∙ sym (ap (λ b. not (b || has k ks) && (free marks j && every (free marks) ks)) (eq-eqb k j (sym e)))

    swap : (f n e : Bool) → (f && (n && e)) ≡ (n && (f && e))
    swap true n e = refl
    swap false true e = refl
    swap false false e = refl

    off : every (free (set marks k 1)) ks ≡ (not (has k ks) && every (free marks) ks)
        → (j ≡ k → ⊥) → (free (set marks k 1) j && every (free (set marks k 1)) ks) ≡ (not (eqb k j || has k ks) && (free marks j && every (free marks) ks))
    off rest ne =
        ap₂ (λ v b. eqb v 0 && b) (get_or-set_other marks k j 1 0 ne) rest
        ∙ swap (free marks j) (not (has k ks)) (every (free marks) ks)
        ∙ sym (ap (λ b. not (b || has k ks) && (free marks j && every (free marks) ks)) (ne_eqb k j (λ e. ne (sym e))))

pub marking-start : (l marks : List ℕ) → Blank marks → Marking l 0 marks
marking-start l marks z = ap (λ b. b && distinct l) (all-free l)
  where
    all-free : (ks : List ℕ) → every (free marks) ks ≡ true
    all-free ks = →every (free marks) ks (λ k i. eq-eqb (get_or marks k 0) 0 (z k))

module _ (l : List ℕ) (i : ℕ) (marks : List ℕ) (h : i < length l) (m : Marking l i marks) where
  here : ℕ
  here = get_or l i 0

  left : List ℕ
  left = drop (i + 1) l

  parted : ((free marks here && every (free marks) left) && (not (has here left) && distinct left)) ≡ distinct l
  unfolding every distinct here left
  parted = sym (ap (λ ks. every (free marks) ks && distinct ks) (drop-cons l i 0 h ∙ ap (λ j. get_or l i 0 ∷ drop j l) (sym (add-one i)))) ∙ m

  pub marked-here : (get_or marks (get_or l i 0) 0 ≡ 0 → ⊥) → distinct l ≡ false
  unfolding here
  marked-here ne = sym (ap (λ b. (b && every (free marks) left) && (not (has here left) && distinct left)) (sym (ne_eqb (get_or marks here 0) 0 ne)) ∙ parted)

  pub marking-next : get_or l i 0 < length marks → get_or marks (get_or l i 0) 0 ≡ 0 → Marking l (i + 1) (set marks (get_or l i 0) 1)
  unfolding here left
  marking-next g e =
      ap (λ b. b && distinct left) (every_set marks left here g) ∙ turned (not (has here left)) (every (free marks) left) (distinct left)
      ∙ ap (λ b. (b && every (free marks) left) && (not (has here left) && distinct left)) (sym (eq-eqb (get_or marks here 0) 0 e))
      ∙ parted
    where
      turned : (n e d : Bool) → ((n && e) && d) ≡ ((true && e) && (n && d))
      turned true e d = refl
      turned false true d = refl
      turned false false d = refl

pub marking-end : (l : List ℕ) (i : ℕ) (marks : List ℕ) → length l ≤ i → Marking l i marks → distinct l ≡ true
unfolding every distinct
marking-end l i marks h m = sym (sym (ap (λ ks. every (free marks) ks && distinct ks) (drop_of_length-le l h)) ∙ m)

-- a number of a list in which none is m or above; and none is where the limit is raised
pub small : (l : List ℕ) (m i : ℕ) → some (too_large m) l ≡ false → i < length l → get_or l i 0 < m
small l m i e h = leb-false m (get_or l i 0) (some-none (too_large m) 0 l e i h)

pub raised : (l : List ℕ) (m n : ℕ) → some (too_large m) l ≡ false → m ≤ n → some (too_large n) l ≡ false
raised l m n e h = some-never (too_large n) 0 l (λ i g. lt-leb n (get_or l i 0) (omega (arith, small l m i e g)))

-- what no test of the list found is below the limit
pub all-below : (m : ℕ) (l : List ℕ) → some (too_large m) l ≡ false → (k : ℕ) → In k l → k < m
all-below m l e k i =
    let p = place_of k l i in
    let f : too_large m (get_or l p.0 0) ≡ false = some-none (too_large m) 0 l e p.0 p.1 in
    subst (λ j. j < m) (sym p.2) (leb-false m (get_or l p.0 0) f)

-- each number once, where the test finds none twice
pub once-of : (l : List ℕ) → repeated l ≡ false → Distinct l
once-of l e = distinct→ l (not-false (distinct l) e)

-- a list of numbers below m that is longer than m has one twice: so has an order of more than 2n columns, and a list of more than m rows
pub too_long : (m : ℕ) (l : List ℕ) → some (too_large m) l ≡ false → m < length l → repeated l ≡ true
too_long m l e h = ap not (not_so (distinct l) (λ d. omega (arith, most-below m l (distinct→ l d) (all-below m l e))))

-- ---- the ladder, and what it leaves

module _ (n m : ℕ) (order listed extra : List ℕ) where
  -- the three scans, with no second part of the limit for rows
  pub large_is : {x y z : Bool} → x ≡ some (too_large (n + n)) order → y ≡ some (too_large (m + 0)) listed → z ≡ some (too_large (m + 0)) extra
      → (x || (y || z)) ≡ large_number n m order listed extra
  large_is p q r =
      ap₂ (λ a b. a || b) p
      (ap₂ (λ a b. a || b) (q ∙ ap (λ k. some (too_large k) listed) (add-zero m)) (r ∙ ap (λ k. some (too_large k) extra) (add-zero m)))

  -- no number is too large
  pub no-large : large_number n m order listed extra ≡ false → (some (too_large (n + n)) order ≡ false) × (some (too_large m) listed ≡ false) × (some (too_large m) extra ≡ false)
  no-large e =
      let o = none_of (some (too_large (n + n)) order) (some (too_large m) listed || some (too_large m) extra) e in
      let r = none_of (some (too_large m) listed) (some (too_large m) extra) o.1 in
      (o.0, r.0, r.1)

  pub fault-6 : large_number n m order listed extra ≡ true → 6 ≡ by_rank (list_lines n m order listed extra)
  unfolding by_rank
  fault-6 e = rw e

  pub fault-7 : large_number n m order listed extra ≡ false → repeated listed ≡ true → 7 ≡ by_rank (list_lines n m order listed extra)
  unfolding by_rank
  fault-7 e f = rw (e, f)

  pub fault-15 : (b : Bool) → large_number n m order listed extra ≡ false → repeated listed ≡ false → repeated order ≡ b
      → cond b 15 0 ≡ by_rank (list_lines n m order listed extra)
  unfolding by_rank
  fault-15 b e f g = rw (e, f, g)

  -- no line fits: each listed row and each column once, and all numbers below their limits
  pub order-once : by_rank (list_lines n m order listed extra) ≡ 0 → Distinct order
  order-once e = once-of order (none-holds (list_lines n m order listed extra) refl e 2)

  pub asked_of : by_rank (list_lines n m order listed extra) ≡ 0 → Asked (n + n) m order listed extra
  asked_of e =
      let no = none-holds (list_lines n m order listed extra) refl e in
      let r = no-large (no 0) in
      record {
        once = once-of listed (no 1);
        rows_in = λ k i. ⊎_elim (all-below m listed r.1 k) (all-below m extra r.2 k) (in_either k listed extra i);
        columns-in = all-below (n + n) order r.0;
      }
