-- Laws of the lists of specs/Lists.antt: membership, each once, how many different. Numbers that stand in another list, each once, are at most as many as it
-- has different ones, because each can be taken out of it (`most-different`). Assumes nothing.
use Prim.Native.Nat.{ℕ, zero, suc, ◌<◌, ◌≤◌}
use native.Mathlib.Decide.{ℕ_discrete}
use native.Mathlib.Omega.{arith}
use mathlib.Core.Path.{◌≡◌, refl, sym, ap, ◌∙◌, subst}
use mathlib.Core.Logic.{◌⊎◌, inl, inr, ⊎_elim}
use mathlib.Core.Bool.{Bool, true, cond, not, ◌||◌, false≢true}
use mathlib.Core.List.{List, [], ◌∷◌, ◌++◌}
use mathlib.Core.Option.{Option, none, some}
use lib.Dec.{eqb}
use lib.ListN.{length, get_or, take, drop}
use borrow.Author.Tests.{eqb-true, eqb-false, eq-eqb, not-true}
use Rattle.pauli.proofs.Bools.{cond_ind, and_left, and_right, and_both, or-true-or, or_right}
use Rattle.reduction.specs.Lists.{In, has, Distinct, distinct, different, All, every}

-- nothing found is not a place
pub none≢some : {k : ℕ} → ◌≡◌ {A = Option ℕ} none (some k) → ⊥
none≢some {k} e = let z : ◌≡◌ {A = ℕ} 0 1 = cc in omega arith

-- ---- what holds of each element

pub all-mono : {A : Type 0} {Q Q' : A → Type 0} → ((e : A) → Q e → Q' e) → (es : List A) → All Q es → All Q' es
all-mono f [] h = tt
all-mono f (e ∷ es) h = (f e h.0, all-mono f es h.1)

pub all_append : {A : Type 0} (Q : A → Type 0) (es fs : List A) → All Q es → All Q fs → All Q (es ++ fs)
all_append Q [] fs h g = g
all_append Q (e ∷ es) fs h g = (h.0, all_append Q es fs h.1 g)

pub all_take : {A : Type 0} (Q : A → Type 0) (n : ℕ) (es : List A) → All Q es → All Q (take n es)
all_take Q zero es h = tt
all_take Q (suc n) [] h = tt
all_take Q (suc n) (e ∷ es) h = (h.0, all_take Q n es h.1)

pub all-get : (k : ℕ) (xs : List ℕ) (Q : ℕ → Type 0) → All Q xs → In k xs → Q k
all-get k [] Q h m = absurd m
all-get k (x ∷ xs) Q h (inl q) = subst Q (sym q) h.0
all-get k (x ∷ xs) Q h (inr m) = all-get k xs Q h.1 m

pub all_of : (xs : List ℕ) (Q : ℕ → Type 0) → ((k : ℕ) → In k xs → Q k) → All Q xs
all_of [] Q h = tt
all_of (x ∷ xs) Q h = (h x (inl refl), all_of xs Q (λ k m. h k (inr m)))

pub every→ : (f : ℕ → Bool) (ks : List ℕ) → every f ks ≡ true → (k : ℕ) → In k ks → f k ≡ true
unfolding every
every→ f [] e k m = absurd m
every→ f (x ∷ xs) e k (inl q) = ap f q ∙ and_left (f x) (every f xs) e
every→ f (x ∷ xs) e k (inr m) = every→ f xs (and_right (f x) (every f xs) e) k m

pub →every : (f : ℕ → Bool) (ks : List ℕ) → ((k : ℕ) → In k ks → f k ≡ true) → every f ks ≡ true
unfolding every
→every f [] h = refl
→every f (x ∷ xs) h = and_both (h x (inl refl)) (→every f xs (λ k m. h k (inr m)))

-- ---- membership

pub same? : (a b : ℕ) → (a ≡ b) ⊎ (a ≡ b → ⊥)
same? a b = go (ℕ_discrete a b)
  where
    go : Dec (a ≡ b) → (a ≡ b) ⊎ (a ≡ b → ⊥)
    go (yes q) = inl q
    go (no n) = inr n

pub in? : (k : ℕ) (xs : List ℕ) → In k xs ⊎ (In k xs → ⊥)
in? k [] = inr (λ m. m)
in? k (x ∷ xs) = ⊎_elim (λ q. inl (inl q)) (λ n. ⊎_elim (λ m. inl (inr m)) (λ n'. inr (⊎_elim n n')) (in? k xs)) (same? k x)

pub has→in : (k : ℕ) (xs : List ℕ) → has k xs ≡ true → In k xs
unfolding has
has→in k [] e = false≢true e
has→in k (x ∷ xs) e = ⊎_elim (λ q. inl (eqb-true k x q)) (λ q. inr (has→in k xs q)) (or-true-or (eqb k x) (has k xs) e)

pub in→has : (k : ℕ) (xs : List ℕ) → In k xs → has k xs ≡ true
unfolding has
in→has k [] m = absurd m
in→has k (x ∷ xs) (inl e) = ap (λ b. b || has k xs) (eq-eqb k x e)
in→has k (x ∷ xs) (inr m) = or_right (eqb k x) (in→has k xs m)

pub in_left : (k : ℕ) (xs ys : List ℕ) → In k xs → In k (xs ++ ys)
in_left k [] ys m = absurd m
in_left k (x ∷ xs) ys (inl e) = inl e
in_left k (x ∷ xs) ys (inr m) = inr (in_left k xs ys m)

pub in_right : (k : ℕ) (xs ys : List ℕ) → In k ys → In k (xs ++ ys)
in_right k [] ys m = m
in_right k (x ∷ xs) ys m = inr (in_right k xs ys m)

pub in_either : (k : ℕ) (xs ys : List ℕ) → In k (xs ++ ys) → In k xs ⊎ In k ys
in_either k [] ys m = inr m
in_either k (x ∷ xs) ys (inl e) = inl (inl e)
in_either k (x ∷ xs) ys (inr m) = ⊎_elim (λ n. inl (inr n)) (λ n. inr n) (in_either k xs ys m)

pub in-drop : (k t : ℕ) (xs : List ℕ) → In k (drop t xs) → In k xs
in-drop k zero xs m = m
in-drop k (suc t) [] m = m
in-drop k (suc t) (x ∷ xs) m = inr (in-drop k t xs m)

-- one more dropped
pub in-drop-suc : (k t : ℕ) (xs : List ℕ) → In k (drop (suc t) xs) → In k (drop t xs)
in-drop-suc k zero [] m = m
in-drop-suc k zero (x ∷ xs) m = inr m
in-drop-suc k (suc t) [] m = m
in-drop-suc k (suc t) (x ∷ xs) m = in-drop-suc k t xs m

-- the first of what is left
pub drop-in : (k t : ℕ) (xs : List ℕ) → In k (drop t xs) → drop t xs ≡ get_or xs t 0 ∷ drop (suc t) xs
drop-in k zero [] m = absurd m
drop-in k zero (x ∷ xs) m = refl
drop-in k (suc t) [] m = absurd m
drop-in k (suc t) (x ∷ xs) m = drop-in k t xs m

pub drop-short : (k t : ℕ) (xs : List ℕ) → In k (drop t xs) → t < length xs
drop-short k zero [] m = absurd m
drop-short k zero (x ∷ xs) m = omega arith
drop-short k (suc t) [] m = absurd m
drop-short k (suc t) (x ∷ xs) m = omega (arith, drop-short k t xs m)

pub in-get_or : (xs : List ℕ) (j : ℕ) → j < length xs → In (get_or xs j 0) xs
in-get_or [] j h = omega arith
in-get_or (x ∷ xs) zero h = inl refl
in-get_or (x ∷ xs) (suc j) h = inr (in-get_or xs j (omega arith))

-- the place of a member
pub place_of : (k : ℕ) (xs : List ℕ) → In k xs → (j : ℕ) × (j < length xs) × (k ≡ get_or xs j 0)
place_of k [] m = absurd m
place_of k (x ∷ xs) (inl q) = (0, omega arith, q)
place_of k (x ∷ xs) (inr m) = let r = place_of k xs m in (suc r.0, omega (arith, r.1), r.2)

-- ---- each once

pub distinct→ : (xs : List ℕ) → distinct xs ≡ true → Distinct xs
unfolding distinct
distinct→ [] e = tt
distinct→ (x ∷ xs) e =
    (λ m. false≢true (sym (not-true (has x xs) (and_left (not (has x xs)) (distinct xs) e)) ∙ in→has x xs m), distinct→ xs (and_right (not (has x xs)) (distinct xs) e))

pub distinct-drop : (t : ℕ) (xs : List ℕ) → Distinct xs → Distinct (drop t xs)
distinct-drop zero xs d = d
distinct-drop (suc t) [] d = d
distinct-drop (suc t) (x ∷ xs) d = distinct-drop t xs d.1

-- ---- how many different

without : ℕ → List ℕ → List ℕ
without x [] = []
without x (y ∷ ys) = cond (eqb x y) ys (y ∷ without x ys)

without-length : (x : ℕ) (ys : List ℕ) → length ys ≤ suc (length (without x ys))
unfolding without
without-length x [] = omega arith
without-length x (y ∷ ys) =
    cond_ind (λ l. suc (length ys) ≤ suc (length l)) (eqb x y) {x = ys} {y = y ∷ without x ys} (λ _. omega arith) (λ _. omega (arith, without-length x ys))

without-mem : (x k : ℕ) (ys : List ℕ) → In k (without x ys) → In k ys
unfolding without
without-mem x k [] = λ m. m
without-mem x k (y ∷ ys) =
    cond_ind (λ l. In k l → (k ≡ y) ⊎ In k ys) (eqb x y) (λ _ m. inr m) (λ _. ⊎_elim (λ q. inl q) (λ m. inr (without-mem x k ys m)))

without_not : (x : ℕ) (ys : List ℕ) → Distinct ys → In x (without x ys) → ⊥
unfolding without
without_not x [] d = λ m. m
without_not x (y ∷ ys) d =
    cond_ind (λ l. In x l → ⊥) (eqb x y) (λ e m. d.0 (subst (λ i. In i ys) (eqb-true x y e) m)) (λ e. ⊎_elim (eqb-false x y e) (without_not x ys d.1))

without-distinct : (x : ℕ) (ys : List ℕ) → Distinct ys → Distinct (without x ys)
unfolding without
without-distinct x [] d = d
without-distinct x (y ∷ ys) d =
    cond_ind Distinct (eqb x y) (λ _. d.1) (λ _. (λ m. d.0 (without-mem x y ys m), without-distinct x ys d.1))

-- numbers of xs, each once, are at most as many as xs has different ones
pub most-different : (xs ys : List ℕ) → Distinct ys → ((k : ℕ) → In k ys → In k xs) → length ys ≤ different xs
unfolding different
most-different [] [] d sub = omega arith
most-different [] (y ∷ ys) d sub = absurd (sub y (inl refl))
most-different (x ∷ xs) ys d sub =
    cond_ind (λ n. length ys ≤ n) (has x xs) {x = different xs} {y = suc (different xs)}
    (λ h. most-different xs ys d (λ k m. ⊎_elim (λ q. subst (λ i. In i xs) (sym q) (has→in x xs h)) (λ n. n) (sub k m)))
    (λ h. omega (
      arith,
      without-length x ys,
      most-different xs (without x ys) (without-distinct x ys d)
          (λ k m. ⊎_elim (λ q. absurd (without_not x ys d (subst (λ i. In i (without x ys)) q m))) (λ n. n) (sub k (without-mem x k ys m))),
    ))

pub different-le : (xs : List ℕ) → different xs ≤ length xs
unfolding different
different-le [] = omega arith
different-le (x ∷ xs) =
    cond_ind (λ n. n ≤ suc (length xs)) (has x xs) {x = different xs} {y = suc (different xs)} (λ _. omega (arith, different-le xs)) (λ _. omega (arith, different-le xs))

upto : ℕ → List ℕ
upto zero = []
upto (suc n) = n ∷ upto n

upto-mem : (n k : ℕ) → k < n → In k (upto n)
unfolding upto
upto-mem zero k h = omega arith
upto-mem (suc n) k h = ⊎_elim (λ q. inl q) (λ q. inr (upto-mem n k (omega arith))) (same? k n)

upto-length : (n : ℕ) → length (upto n) ≡ n
unfolding upto
upto-length zero = refl
upto-length (suc n) = ap suc (upto-length n)

-- numbers below n, each once, are at most n
pub most-below : (n : ℕ) (ys : List ℕ) → Distinct ys → ((k : ℕ) → In k ys → k < n) → length ys ≤ n
most-below n ys d h =
    omega (arith, most-different (upto n) ys d (λ k m. upto-mem n k (h k m)), different-le (upto n), upto-length n)
