-- Lines by rank: a number is given exactly when its line holds and none above it does. Two lists that stand by rank give, joined, the number of the smaller
-- rank (`joined-earlier`): what is placed before a line has no larger rank, and 0 has the largest. Assumes nothing.
use mathlib.Core.Path.{◌≡◌, refl, sym, ap, ap₂, ◌∙◌, subst}
use mathlib.Core.Logic.{◌↔◌, ◌⊎◌, inl, inr, ⊎_elim}
use mathlib.Core.Bool.{Bool, true, false, cond, ◌&&◌}
use mathlib.Core.List.{List, [], ◌∷◌, ◌++◌}
use Prim.Native.Nat.{ℕ, zero, suc, ◌≤◌, ◌<◌}
use native.Mathlib.Nat.{suc-ne-zero, le_refl, le_trans, le_of_lt}
use native.Mathlib.Omega.{arith}
use borrow.Author.Tests.{le-leb, lt-leb, leb-true, leb-false, ltb-true, lt-ltb, eqb-true}
use lib.Dec.{eqb, leb, ltb}
use lib.ListN.{length, get_or}
use Rattle.pauli.specs.Lists.{every}
use Rattle.pauli.proofs.Bools.{and_left, and_right}
use Rattle.encoding.specs.Refusals.{least, smaller, answer_or, done_or}
use Rattle.encoding.specs.declared.Refusal.{Refusal}
use Rattle.std.specs.Prelude.{Result, Err}
use Rattle.encoding.specs.Ranks.{TableLine, line, by_rank, table, place_in, rank, placed, joined}
use Rattle.encoding.proofs.Faults.{or_else, refused-by, smaller-is}

-- ---- given exactly when

-- a line with the number k holds, and none above it
abbrev pub Given : ℕ → List TableLine → Type 0
Given k [] = ⊥
Given k (l ∷ ls) = ((l.holds ≡ true) × (l.number ≡ k)) ⊎ ((l.holds ≡ false) × Given k ls)

which : (b : Bool) {x y k : ℕ} → cond b x y ≡ k → ((b ≡ true) × (x ≡ k)) ⊎ ((b ≡ false) × (y ≡ k))
which true e = inl (refl, e)
which false e = inr (refl, e)

to-line : (k : ℕ) (ls : List TableLine) → by_rank ls ≡ suc k → Given (suc k) ls
unfolding by_rank
to-line k [] e = absurd (suc-ne-zero k (sym e))
to-line k (l ∷ ls) e = ⊎_elim (λ p. inl p) (λ p. inr (p.0, to-line k ls p.1)) (which l.holds e)

from-line : (k : ℕ) (ls : List TableLine) → Given k ls → by_rank ls ≡ k
unfolding by_rank
from-line k [] g = absurd g
from-line k (l ∷ ls) (inl p) = ap (λ b. cond b l.number (by_rank ls)) p.0 ∙ p.1
from-line k (l ∷ ls) (inr p) = ap (λ b. cond b l.number (by_rank ls)) p.0 ∙ from-line k ls p.1

pub given-exactly : (ls : List TableLine) (k : ℕ) → (by_rank ls ≡ suc k) ↔ Given (suc k) ls
given-exactly ls k = (to-line k ls, from-line (suc k) ls)

-- the same by the answer
module _ {A : Type 0} (refuse by : ℕ → A) (given : (k : ℕ) → refuse (suc k) ≡ by (suc k)) (only : (f k : ℕ) → by f ≡ refuse (suc k) → f ≡ suc k) where
  pub given-iff : (ls : List TableLine) (k : ℕ) → (by (by_rank ls) ≡ refuse (suc k)) ↔ Given (suc k) ls
  given-iff ls k = (
    λ e. (given-exactly ls k).0 (only (by_rank ls) k e),
    λ g. ap by ((given-exactly ls k).1 g) ∙ sym (given k),
  )

pub answer-refused : {A : Type 0} (v : A) (ls : List TableLine) (k : ℕ) → (answer_or (by_rank ls) v ≡ Err (record { 0 = suc k })) ↔ Given (suc k) ls
unfolding answer_or
answer-refused {A} v = given-iff (λ k. Err (record { 0 = k })) (λ f. answer_or f v) (λ k. refl) only
  where
    only : (f k : ℕ) → answer_or f v ≡ Err (record { 0 = suc k }) → f ≡ suc k
    only f k e = sym (refused-by f v (sym e)).0

-- ---- no line holds. Numbers of the table are not 0, which a list of known numbers shows by `refl`

abbrev pub counted : List TableLine → Bool
counted [] = true
counted (l ∷ ls) = ltb 0 l.number && counted ls

abbrev pub holds_at : List TableLine → ℕ → Bool
holds_at ls j = (get_or ls j (line 0 false)).holds

pass : (b : Bool) (k : ℕ) {v : ℕ} → 0 < k → cond b k v ≡ 0 → (b ≡ false) × (v ≡ 0)
pass true k h e = absurd (omega arith)
pass false k h e = (refl, e)

pub none-holds : (ls : List TableLine) → counted ls ≡ true → by_rank ls ≡ 0 → (j : ℕ) → holds_at ls j ≡ false
unfolding by_rank
none-holds [] c e j = refl
none-holds (l ∷ ls) c e zero = (pass l.holds l.number (ltb-true 0 l.number (and_left (ltb 0 l.number) (counted ls) c)) e).0
none-holds (l ∷ ls) c e (suc j) =
    none-holds ls (and_right (ltb 0 l.number) (counted ls) c) (pass l.holds l.number (ltb-true 0 l.number (and_left (ltb 0 l.number) (counted ls) c)) e).1 j

pub nothing-given : (ls : List TableLine) → ((j : ℕ) → holds_at ls j ≡ false) → by_rank ls ≡ 0
unfolding by_rank
nothing-given [] h = refl
nothing-given (l ∷ ls) h = ap (λ (b : Bool). cond b l.number (by_rank ls)) (h 0) ∙ nothing-given ls (λ j. h (suc j))

-- nothing is refused exactly when no line holds
pub refused-never : (ls : List TableLine) → counted ls ≡ true → (by_rank ls ≡ 0) ↔ ((j : ℕ) → holds_at ls j ≡ false)
refused-never ls c = (none-holds ls c, nothing-given ls)

-- ---- lines below others: their number counts where that of those above is 0

above : (b : Bool) (k v u : ℕ) → 0 < k → cond b k (or_else v u) ≡ or_else (cond b k v) u
above true zero v u h = absurd (omega arith)
above true (suc k) v u h = refl
above false k v u h = refl

pub rank-append : (ls us : List TableLine) → counted ls ≡ true → by_rank (ls ++ us) ≡ or_else (by_rank ls) (by_rank us)
unfolding by_rank
rank-append [] us c = refl
rank-append (l ∷ ls) us c =
    ap (λ (k : ℕ). cond l.holds l.number k) (rank-append ls us (and_right (ltb 0 l.number) (counted ls) c))
    ∙ above l.holds l.number (by_rank ls) (by_rank us) (ltb-true 0 l.number (and_left (ltb 0 l.number) (counted ls) c))

-- ---- two parts of a call

abbrev last : ℕ
last = length table

-- numbers of the table by rank, none of them of a smaller one than k
abbrev pub in_order : ℕ → List TableLine → Bool
in_order k [] = true
in_order k (l ∷ ls) = leb k (rank l.number) && (ltb (rank l.number) last && in_order (rank l.number) ls)

-- whichever of two numbers has the smaller rank
abbrev earlier : ℕ → ℕ → ℕ
earlier a b = cond (leb (rank a) (rank b)) a b

-- 0 is no number of the table
rank-none : rank 0 ≡ last
unfolding place_in
rank-none = refl

record Headed (k : ℕ) (l : TableLine) (ls : List TableLine) : Type 0 where
  low : k ≤ rank l.number
  there : rank l.number < last
  rest : in_order (rank l.number) ls ≡ true

headed : (k : ℕ) (l : TableLine) (ls : List TableLine) → in_order k (l ∷ ls) ≡ true → Headed k l ls
headed k l ls e =
    let r = rank l.number in
    let b = and_right (leb k r) (ltb r last && in_order r ls) e in
    record { low = leb-true k r (and_left (leb k r) _ e); there = ltb-true r last (and_left (ltb r last) _ b); rest = and_right (ltb r last) (in_order r ls) b }

heading : (k : ℕ) (l : TableLine) (ls : List TableLine) → Headed k l ls → in_order k (l ∷ ls) ≡ true
heading k l ls h = ap₂ ◌&&◌ (le-leb _ _ h.low) (ap₂ ◌&&◌ (lt-ltb _ _ h.there) h.rest)

earlier-left : (a b : ℕ) → rank a ≤ rank b → earlier a b ≡ a
earlier-left a b h = ap (λ (t : Bool). cond t a b) (le-leb _ _ h)

earlier-right : (a b : ℕ) → rank b < rank a → earlier a b ≡ b
earlier-right a b h = ap (λ (t : Bool). cond t a b) (lt-leb _ _ h)

-- what a list gives has no smaller rank than its first
high : (k : ℕ) (ls : List TableLine) → k ≤ last → in_order k ls ≡ true → k ≤ rank (by_rank ls)
unfolding by_rank
high k [] h e = subst (λ (j : ℕ). k ≤ j) (sym rank-none) h
high k (l ∷ ls) h e =
    let g = headed k l ls e in
    le_trans g.low (go l.holds (high (rank l.number) ls (le_of_lt g.there) g.rest))
  where
    go : (b : Bool) → rank l.number ≤ rank (by_rank ls) → rank l.number ≤ rank (cond b l.number (by_rank ls))
    go true q = le_refl _
    go false q = q

-- beside a number of the table, and beside what a list gives, 0 is none
none_first : (k : ℕ) (ls : List TableLine) → in_order k ls ≡ true → earlier 0 (by_rank ls) ≡ by_rank ls
unfolding by_rank
none_first k [] e = earlier-left 0 0 (le_refl _)
none_first k (l ∷ ls) e = let g = headed k l ls e in go l.holds g.there (none_first (rank l.number) ls g.rest)
  where
    go : (b : Bool) → rank l.number < last → earlier 0 (by_rank ls) ≡ by_rank ls → earlier 0 (cond b l.number (by_rank ls)) ≡ cond b l.number (by_rank ls)
    go true h q = earlier-right 0 l.number (subst (λ (j : ℕ). rank l.number < j) (sym rank-none) h)
    go false h q = q

-- the number of one line
abbrev of : TableLine → ℕ
of l = cond l.holds l.number 0

pub placed-earlier : (k : ℕ) (l : TableLine) (us : List TableLine) → rank l.number < last → in_order k us ≡ true → by_rank (placed l us) ≡ earlier (of l) (by_rank us)
unfolding by_rank placed
placed-earlier k l [] h e = go l.holds
  where
    go : (b : Bool) → cond b l.number 0 ≡ earlier (cond b l.number 0) 0
    go true = sym (earlier-left l.number 0 (subst (λ (j : ℕ). rank l.number ≤ j) (sym rank-none) (le_of_lt h)))
    go false = sym (earlier-left 0 0 (le_refl _))
placed-earlier k l (u ∷ us) h e = go (placed-earlier (rank u.number) l us h (headed k u us e).rest) (leb (rank l.number) (rank u.number)) refl
  where
    g : Headed k u us
    g = headed k u us e

    first : rank l.number ≤ rank u.number → (b : Bool) → cond b l.number (by_rank (u ∷ us)) ≡ earlier (cond b l.number 0) (by_rank (u ∷ us))
    first q true = sym (earlier-left l.number _ (le_trans q (high (rank u.number) (u ∷ us) (le_of_lt g.there) (heading _ u us (record { low = le_refl _; there = g.there; rest = g.rest })))))
    first q false = sym (none_first k (u ∷ us) e)

    under : rank u.number < rank l.number → (b c : Bool) → by_rank (placed l us) ≡ earlier (cond b l.number 0) (by_rank us)
        → cond c u.number (by_rank (placed l us)) ≡ earlier (cond b l.number 0) (cond c u.number (by_rank us))
    under q true true i = sym (earlier-right l.number u.number q)
    under q false true i = sym (earlier-right 0 u.number (subst (λ (j : ℕ). rank u.number < j) (sym rank-none) g.there))
    under q b false i = i

    go : by_rank (placed l us) ≡ earlier (of l) (by_rank us) → (t : Bool) → leb (rank l.number) (rank u.number) ≡ t
        → by_rank (cond t (l ∷ u ∷ us) (u ∷ placed l us)) ≡ earlier (of l) (by_rank (u ∷ us))
    go i true q = first (leb-true _ _ q) l.holds
    go i false q = under (leb-false _ _ q) l.holds u.holds i

placed-order : (k : ℕ) (l : TableLine) (us : List TableLine) → k ≤ rank l.number → rank l.number < last → in_order k us ≡ true → in_order k (placed l us) ≡ true
unfolding placed
placed-order k l [] low there e = heading k l [] (record { low = low; there = there; rest = refl })
placed-order k l (u ∷ us) low there e =
    go (λ q. placed-order (rank u.number) l us q there (headed k u us e).rest) (leb (rank l.number) (rank u.number)) refl
  where
    g : Headed k u us
    g = headed k u us e

    go : (rank u.number ≤ rank l.number → in_order (rank u.number) (placed l us) ≡ true) → (t : Bool) → leb (rank l.number) (rank u.number) ≡ t
        → in_order k (cond t (l ∷ u ∷ us) (u ∷ placed l us)) ≡ true
    go i true q = heading k l (u ∷ us) (record { low = low; there = there; rest = heading _ u us (record { low = leb-true _ _ q; there = g.there; rest = g.rest }) })
    go i false q = heading k u (placed l us) (record { low = g.low; there = g.there; rest = i (le_of_lt (leb-false _ _ q)) })

looser : (j k : ℕ) (ls : List TableLine) → j ≤ k → in_order k ls ≡ true → in_order j ls ≡ true
looser j k [] h e = refl
looser j k (l ∷ ls) h e = let g = headed k l ls e in heading j l ls (record { low = le_trans h g.low; there = g.there; rest = g.rest })

joined-order : (ls us : List TableLine) → in_order 0 ls ≡ true → in_order 0 us ≡ true → in_order 0 (joined ls us) ≡ true
unfolding joined
joined-order [] us e f = f
joined-order (l ∷ ls) us e f =
    let g = headed 0 l ls e in
    placed-order 0 l (joined ls us) (omega arith) g.there (joined-order ls us (looser 0 _ ls (omega arith) g.rest) f)

-- of three numbers the middle one does not count where the first comes before it
skip : (a b c : ℕ) → rank a ≤ rank b → earlier a (earlier b c) ≡ earlier a c
skip a b c h = go (leb (rank b) (rank c)) refl
  where
    go : (t : Bool) → leb (rank b) (rank c) ≡ t → earlier a (cond t b c) ≡ earlier a c
    go true q = earlier-left a b h ∙ sym (earlier-left a c (le_trans h (leb-true _ _ q)))
    go false q = refl

joined-earlier : (ls us : List TableLine) → in_order 0 ls ≡ true → in_order 0 us ≡ true → by_rank (joined ls us) ≡ earlier (by_rank ls) (by_rank us)
unfolding by_rank joined
joined-earlier [] us e f = sym (none_first 0 us f)
joined-earlier (l ∷ ls) us e f =
    placed-earlier 0 l (joined ls us) g.there o ∙ go (joined-earlier ls us lower f) l.holds
  where
    g : Headed 0 l ls
    g = headed 0 l ls e

    lower : in_order 0 ls ≡ true
    lower = looser 0 _ ls (omega arith) g.rest

    o : in_order 0 (joined ls us) ≡ true
    o = joined-order ls us lower f

    go : by_rank (joined ls us) ≡ earlier (by_rank ls) (by_rank us) → (b : Bool) → earlier (cond b l.number 0) (by_rank (joined ls us)) ≡ earlier (cond b l.number (by_rank ls)) (by_rank us)
    go i true = ap (earlier l.number) i ∙ skip l.number (by_rank ls) (by_rank us) (high (rank l.number) ls (le_of_lt g.there) g.rest)
    go i false = none_first 0 (joined ls us) o ∙ i

-- ---- the code takes the smaller number: the same where sizes go by rank, which lists of known numbers show by `refl`

-- a test of all numbers that a list can give
abbrev all : (ℕ → Bool) → List TableLine → Bool
all f ls = f 0 && every (λ l. f l.number) ls

given-one : (f : ℕ → Bool) (ls : List TableLine) → f 0 ≡ true → every (λ l. f l.number) ls ≡ true → f (by_rank ls) ≡ true
unfolding by_rank every
given-one f [] z e = z
given-one f (l ∷ ls) z e = go (given-one f ls z (and_right (f l.number) _ e)) l.holds
  where
    go : f (by_rank ls) ≡ true → (b : Bool) → f (cond b l.number (by_rank ls)) ≡ true
    go i true = and_left (f l.number) (every (λ l. f l.number) ls) e
    go i false = i

abbrev pub alike : List TableLine → List TableLine → Bool
alike ls us = all (λ a. all (λ b. eqb (least a b) (earlier a b)) us) ls

abbrev pub Fitting : List TableLine → List TableLine → Type 0
Fitting ls us = (in_order 0 ls && (in_order 0 us && alike ls us)) ≡ true

pub joined-fault : (ls us : List TableLine) → Fitting ls us → least (by_rank ls) (by_rank us) ≡ by_rank (joined ls us)
joined-fault ls us f =
    let r = and_right (in_order 0 ls) _ f in
    let s = and_right (in_order 0 us) _ r in
    let a = given-one (λ a. all (λ b. eqb (least a b) (earlier a b)) us) ls (and_left _ _ s) (and_right (all (λ b. eqb (least 0 b) (earlier 0 b)) us) _ s) in
    let b = given-one (λ b. eqb (least (by_rank ls) b) (earlier (by_rank ls) b)) us (and_left _ _ a) (and_right (eqb (least (by_rank ls) 0) (earlier (by_rank ls) 0)) _ a) in
    eqb-true _ _ b ∙ sym (joined-earlier ls us (and_left _ _ f) (and_left _ _ r))

pub both-parts : {f a b : Result Unit Refusal} (ls us : List TableLine) → Fitting ls us → a ≡ done_or (by_rank ls) → b ≡ done_or (by_rank us) → f ≡ smaller a b
    → f ≡ done_or (by_rank (joined ls us))
both-parts ls us p ea eb ef = ef ∙ ap₂ smaller ea eb ∙ smaller-is (by_rank ls) (by_rank us) ∙ ap done_or (joined-fault ls us p)
