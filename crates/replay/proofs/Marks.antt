-- Marks of row numbers: marking a list, and the entry test by marks. What is left to mark, marked from here, is the whole, marked from the start; with the extra
-- rows marked 1 and the listed ones 2, a mark tells the list (`first-by-lists`). Assumes nothing.
use mathlib.Core.Path.{◌≡◌, refl, sym, ap, ap₂, ◌∙◌}
use mathlib.Core.Logic.{⊎_elim}
use mathlib.Core.Bool.{Bool, true, false, cond, not, ◌&&◌, ◌||◌}
use mathlib.Core.List.{List, [], ◌∷◌, ◌++◌}
use mathlib.Core.Option.{some}
use Prim.Native.Nat.{ℕ, zero, suc, ◌+◌, ◌≤◌, ◌<◌}
use native.Mathlib.Numerals.{add-one}
use borrow.Author.Tests.{eq-eqb, ne_eqb}
use lib.Dec.{eqb, leb}
use lib.ListN.{length, get_or, drop, set, replicate, drop_of_length-le}
use lib.Seq.{drop-cons, get_or-set_same, get_or-set_other}
use Rattle.reduction.specs.Lists.{has}
use Rattle.reduction.specs.Rule.{Entry, entry}
use Rattle.reduction.specs.Checker.{good, first_bad}
use Rattle.reduction.proofs.Lists.{same?}
use Rattle.replay.specs.Workers.{Marked, good_by, first_bad_by}

-- a table as it is made
pub zeros : (m k : ℕ) → get_or (replicate {A = ℕ} m 0) k 0 ≡ 0
zeros zero k = refl
zeros (suc m) zero = refl
zeros (suc m) (suc k) = zeros m k

-- ---- marking a list: what is left to mark, marked from here, is the whole, marked from the start

abbrev pub Marking : List ℕ → ℕ → List ℕ → ℕ → List ℕ → Type 0
Marking l v old i new = (k : ℕ) → cond (has k (drop i l)) v (get_or new k 0) ≡ cond (has k l) v (get_or old k 0)

same-both : {A : Type 0} (b : Bool) (a : A) → cond b a a ≡ a
same-both true a = refl
same-both false a = refl

module _ (l : List ℕ) (v : ℕ) (old : List ℕ) (i : ℕ) (new : List ℕ) where
  here : ℕ
  here = get_or l i 0

  pub marking-next : i < length l → get_or l i 0 < length new → Marking l v old i new → Marking l v old (i + 1) (set new (get_or l i 0) v)
  unfolding has here
  marking-next h g m k = ⊎_elim at off (same? k here) ∙ m k
    where
      whole : cond (has k (drop i l)) v (get_or new k 0) ≡ cond (eqb k here || has k (drop (i + 1) l)) v (get_or new k 0)
      whole = ap (λ ks. cond (has k ks) v (get_or new k 0)) (drop-cons l i 0 h) ∙ ap (λ j. cond (eqb k here || has k (drop j l)) v (get_or new k 0)) (sym (add-one i))

      at : k ≡ here → cond (has k (drop (i + 1) l)) v (get_or (set new here v) k 0) ≡ cond (has k (drop i l)) v (get_or new k 0)
      at e =
          ap (λ x. cond (has k (drop (i + 1) l)) v x) (ap (λ j. get_or (set new here v) j 0) e ∙ get_or-set_same new here v 0 g)
          ∙ same-both (has k (drop (i + 1) l)) v
          ∙ sym (whole ∙ ap (λ b. cond (b || has k (drop (i + 1) l)) v (get_or new k 0)) (eq-eqb k here e))

      off : (k ≡ here → ⊥) → cond (has k (drop (i + 1) l)) v (get_or (set new here v) k 0) ≡ cond (has k (drop i l)) v (get_or new k 0)
      off ne =
          ap (λ x. cond (has k (drop (i + 1) l)) v x) (get_or-set_other new here k v 0 ne)
          ∙ sym (whole ∙ ap (λ b. cond (b || has k (drop (i + 1) l)) v (get_or new k 0)) (ne_eqb k here ne))

  pub marking-end : length l ≤ i → Marking l v old i new → Marked l v old new
  unfolding has
  marking-end h m k = ap (λ ks. cond (has k ks) v (get_or new k 0)) (sym (drop_of_length-le l h)) ∙ m k

-- the entry test by its parts
pub good-by : (marks : List ℕ) (a b : ℕ) {u v : ℕ} → u ≡ get_or marks a 0 → v ≡ get_or marks b 0 → (not (eqb a b) && leb 1 u && leb 2 v) ≡ good_by marks (entry a b)
unfolding good_by
good-by marks a b e f = ap₂ (λ x y. not (eqb a b) && leb 1 x && leb 2 y) e f

-- ---- the table of both lists, and the test by the lists

has-append : (k : ℕ) (xs ys : List ℕ) → has k (xs ++ ys) ≡ (has k xs || has k ys)
unfolding has
has-append k [] ys = refl
has-append k (x ∷ xs) ys = ap (λ b. eqb k x || b) (has-append k xs ys) ∙ go (eqb k x)
  where
    go : (b : Bool) → (b || (has k xs || has k ys)) ≡ (b || has k xs || has k ys)
    go true = refl
    go false = refl

module _ (listed extra marks marks' : List ℕ) (m : ℕ) (e : Marked extra 1 (replicate {A = ℕ} m 0) marks) (l : Marked listed 2 marks marks') where
  table : (k : ℕ) → get_or marks' k 0 ≡ cond (has k listed) 2 (cond (has k extra) 1 0)
  table k = l k ∙ ap (cond (has k listed) 2) (e k ∙ ap (cond (has k extra) 1) (zeros m k))

  one : (a b : Bool) → leb 1 (cond a 2 (cond b 1 0)) ≡ (a || b)
  one true b = refl
  one false true = refl
  one false false = refl

  two : (a b : Bool) → leb 2 (cond a 2 (cond b 1 0)) ≡ a
  two true b = refl
  two false true = refl
  two false false = refl

  by-lists : (t : Entry) → good_by marks' t ≡ good listed extra t
  unfolding good_by good
  by-lists t =
      ap₂ (λ u v. not (eqb t.target t.source) && u && v)
      (ap (leb 1) (table t.target) ∙ one (has t.target listed) (has t.target extra) ∙ sym (has-append t.target listed extra))
      (ap (leb 2) (table t.source) ∙ two (has t.source listed) (has t.source extra))

  pub first-by-lists : (i : ℕ) (es : List Entry) → first_bad_by (good_by marks') i es ≡ first_bad listed extra i es
  unfolding first_bad_by first_bad
  first-by-lists i [] = refl
  first-by-lists i (t ∷ es) = ap₂ (λ b o. cond b o (some i)) (by-lists t) (first-by-lists (suc i) es)
