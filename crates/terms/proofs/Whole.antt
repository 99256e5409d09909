-- `canonicalize_all` is `canonicalize` by all columns, with all rows listed and none extra: nothing more is refused, never 15, and that order names every
-- column. Assumes nothing.
use Prim.Native.Nat.{ℕ, zero, suc, ◌+◌, ◌<◌}
use native.Mathlib.Omega.{arith}
use mathlib.Core.Path.{◌≡◌, refl, sym, ap, ap₂, ◌∙◌, subst}
use mathlib.Core.Bool.{true, false, not, ◌||◌, false≢true}
use mathlib.Core.List.{List, [], ◌∷◌}
use lib.ListN.{length, get_or}
use mathlib.Core.Logic.{inl, inr}
use borrow.Author.Tests.{lt-leb, eq-eqb}
use lib.Dec.{eqb}
use Rattle.encoding.specs.Set.{Mem, count}
use Rattle.encoding.specs.Refusals.{some, too_large, set_lines}
use Rattle.encoding.proofs.Faults.{or_else}
use Rattle.encoding.proofs.Parts.{length-list, get_or-list}
use Rattle.reduction.specs.Lists.{In, has, Distinct, distinct}
use Rattle.reduction.specs.Demand.{NamesAll}
use Rattle.pauli.proofs.Bools.{not_so, and_both, and_left, and_right}
use Rattle.reduction.proofs.Lists.{has→in, in-get_or, place_of, distinct→, most-different, different-le, most-below}
use Rattle.terms.specs.Calls.{ReductionAnswer}
use Rattle.terms.specs.Calls.{RefusedBy}
use Rattle.reduction.specs.Log.{capacity}
use Rattle.encoding.specs.Ranks.{TableLine, by_rank}
use Rattle.terms.specs.Refused.{list_lines, reduce_fault}
use Rattle.terms.specs.Calls.{Leaves, Reduces, ReducesAll, whole_outcome, up_to}
use Rattle.encoding.proofs.Ranks.{Given, rank-append}
use Rattle.pauli.specs.Lists.{every}
use Rattle.terms.proofs.Finished.{canonicalized-refused}

none-large : (m : ℕ) (l : List ℕ) → ((i : ℕ) → i < length l → get_or l i 0 < m) → some (too_large m) l ≡ false
unfolding some
none-large m [] h = refl
none-large m (k ∷ ks) h = ap₂ (λ a b. a || b) (lt-leb m k (h 0 (omega arith))) (none-large m ks (λ i g. h (suc i) (omega arith)))

-- numbers that differ wherever their places do stand once each
each-once : (l : List ℕ) → ((i j : ℕ) → i < length l → j < length l → get_or l i 0 ≡ get_or l j 0 → i ≡ j) → distinct l ≡ true
unfolding distinct
each-once [] h = refl
each-once (x ∷ xs) h =
    and_both
    (ap not (not_so (has x xs) (λ e. let p = place_of x xs (has→in x xs e) in let q = h 0 (suc p.0) (omega arith) (omega (arith, p.1)) p.2 in omega arith)))
    (each-once xs (λ i j g g' e. let q = h (suc i) (suc j) (omega arith) (omega arith) e in omega arith))

at_up : (m i : ℕ) → i < length (up_to m) → (i < m) × (get_or (up_to m) i 0 ≡ i)
at_up m i h = let g : i < m = omega (arith, length-list m (λ k. k)) in (g, get_or-list m (λ k. k) i 0 g)

below_up : (m : ℕ) (i : ℕ) → i < length (up_to m) → get_or (up_to m) i 0 < m
below_up m i h = let p = at_up m i h in subst (λ k. k < m) (sym p.1) p.0

-- all numbers below m, each once
pub up-once : (m : ℕ) → distinct (up_to m) ≡ true
up-once m = each-once (up_to m) (λ i j g g' e. sym (at_up m i g).1 ∙ e ∙ (at_up m j g').1)

no-list-fault : (n m : ℕ) → by_rank (list_lines n m (up_to (n + n)) (up_to m) []) ≡ 0
unfolding by_rank some
no-list-fault n m =
    simp (
      none-large (n + n) (up_to (n + n)) (below_up (n + n)),
      none-large m (up_to m) (below_up m),
      up-once m,
      up-once (n + n),
    )

pub or-zero : (a : ℕ) → or_else a 0 ≡ a
or-zero zero = refl
or-zero (suc a) = refl

-- Nothing more is refused than the set's own faults.
pub whole-fault : (n : ℕ) (M : Mem) → reduce_fault n M (up_to (n + n)) (up_to (count M)) [] ≡ by_rank (set_lines n M)
whole-fault n M =
    rank-append (set_lines n M) (list_lines n (count M) (up_to (n + n)) (up_to (count M)) []) refl
    ∙ ap (or_else (by_rank (set_lines n M))) (no-list-fault n (count M)) ∙ or-zero (by_rank (set_lines n M))

-- So the contract of `canonicalize_all` is that of `canonicalize` at these lists.
pub whole_is : (n : ℕ) (M : Mem) (log : List ℕ) (M' : Mem) (log' : List ℕ) (r : ReductionAnswer) → ReducesAll n M log M' log' r → Reduces n (up_to (n + n)) (up_to (count M)) [] M log M' log' r
whole_is n M log M' log' r L = subst (λ f. Leaves n f (whole_outcome n M log) M log M' log' r) (sym (whole-fault n M)) L

-- The order of `canonicalize_all` names every column.
pub whole-names : (n : ℕ) → NamesAll (n + n) (up_to (n + n))
whole-names n c h =
    subst (λ k. In k (up_to (n + n))) (get_or-list (n + n) (λ k. k) c 0 h) (in-get_or (up_to (n + n)) c (omega (arith, length-list (n + n) (λ k. k))))

-- a number that no line has is not given
other-number : (k : ℕ) (ls : List TableLine) → every (λ l. not (eqb l.number k)) ls ≡ true → Given k ls → ⊥
unfolding every
other-number k [] c g = g
other-number k (l ∷ ls) c (inl p) = false≢true (sym (ap not (eq-eqb l.number k p.1)) ∙ and_left (not (eqb l.number k)) (every (λ l. not (eqb l.number k)) ls) c)
other-number k (l ∷ ls) c (inr p) = other-number k ls (and_right (not (eqb l.number k)) (every (λ l. not (eqb l.number k)) ls) c) p.1

-- It names no column twice, so 15 is never drawn.
pub whole-never-15 : {n : ℕ} {M : Mem} {log : List ℕ} {M' : Mem} {log' : List ℕ} {r : ReductionAnswer} → ReducesAll n M log M' log' r → r ≡ RefusedBy 15 → ⊥
unfolding every
whole-never-15 {n} {M} {log} L e =
    other-number 15 (set_lines n M) refl ((canonicalized-refused (capacity log) (whole_outcome n M log) (set_lines n M) 14).0 (sym L.answer ∙ e))

-- An order that names every column, each once, is as long as there are columns.
pub every-once : (N : ℕ) (order : List ℕ) → NamesAll N order → Distinct order → ((c : ℕ) → In c order → c < N) → length order ≡ N
every-once N order names once below =
    omega (
      arith,
      most-below N order once below,
      most-different order (up_to N) (distinct→ (up_to N) (up-once N)) (λ c i. names c (up-below c i)),
      different-le order,
      length-list N (λ i. i),
    )
  where
    up-below : (c : ℕ) → In c (up_to N) → c < N
    up-below c i = let p = place_of c (up_to N) i in subst (λ k. k < N) (sym p.2) (below_up N p.0 p.1)
