-- Numbers of the table, 0 for none: the smaller of two, and one after another; and what a refusal comes to in answers and buffers. Which number a list of
-- lines gives stands in proofs/Ranks.antt. Assumes nothing.
use mathlib.Core.Path.{◌≡◌, refl, sym, ap, ◌∙◌, subst}
use mathlib.Core.Bool.{Bool, true, false, cond, not}
use Prim.Native.Nat.{ℕ, zero, suc, ◌*◌, ◌≤◌, ◌<◌}
use native.Mathlib.Nat.{suc-ne-zero}
use native.Mathlib.Omega.{arith}
use borrow.Author.Tests.{lt-ltb, le-ltb, eqb-true, not-false}
use lib.Dec.{ltb, eqb}
use lib.ListN.{length}
use Rattle.encoding.specs.Refusals.{least, smaller, bad_lengths, wrong_lengths, answer_or, done_or, left_or}
use Rattle.encoding.specs.Set.{Mem, count, phase_units}
use Rattle.encoding.specs.declared.Refusal.{Refusal}
use Rattle.std.specs.Prelude.{Result, Ok, Err, IfOk}
use Rattle.encoding.proofs.Scan.{none_of}

-- ---- the smaller number

pub least-left : (a b : ℕ) → (a ≡ 0 → ⊥) → b ≡ 0 → a ≡ least a b
unfolding least
least-left zero b h e = absurd (h refl)
least-left (suc a) zero h e = refl
least-left (suc a) (suc b) h e = absurd (omega arith)

pub least-less : (a b : ℕ) → (a ≡ 0 → ⊥) → (b ≡ 0 → ⊥) → a < b → a ≡ least a b
unfolding least
least-less zero b h g l = absurd (h refl)
least-less (suc a) zero h g l = absurd (g refl)
least-less (suc a) (suc b) h g l = simp (lt-ltb _ _ l)

pub least_more : (a b : ℕ) → (a ≡ 0 → ⊥) → (b ≡ 0 → ⊥) → b ≤ a → b ≡ least a b
unfolding least
least_more zero b h g l = absurd (h refl)
least_more (suc a) zero h g l = absurd (g refl)
least_more (suc a) (suc b) h g l = simp (le-ltb _ _ l)

pub least_zero : (a : ℕ) → least a 0 ≡ a
unfolding least
least_zero zero = refl
least_zero (suc a) = refl

pub least-none : (a b : ℕ) → least a b ≡ 0 → (a ≡ 0) × (b ≡ 0)
unfolding least
least-none zero b e = (refl, e)
least-none (suc a) zero e = absurd (suc-ne-zero a e)
least-none (suc a) (suc b) e = absurd (go (ltb (suc a) (suc b)) e)
  where
    go : (t : Bool) → cond t (suc a) (suc b) ≡ 0 → ⊥
    go true e = suc-ne-zero a e
    go false e = suc-ne-zero b e

-- ---- tests one after the other: the number of the first part where it is not 0, else that of the second

abbrev pub or_else : ℕ → ℕ → ℕ
or_else zero b = b
or_else (suc a) b = suc a

pub or-none : (a b : ℕ) → or_else a b ≡ 0 → (a ≡ 0) × (b ≡ 0)
or-none zero b e = (refl, e)
or-none (suc a) b e = absurd (suc-ne-zero a e)

pub or-first : (a b : ℕ) → (a ≡ 0 → ⊥) → or_else a b ≡ a
or-first zero b h = absurd (h refl)
or-first (suc a) b h = refl

-- ---- one test, with its number

pub not-large : (k : ℕ) (large : Bool) → cond large (suc k) 0 ≡ 0 → large ≡ false
not-large k true e = absurd (suc-ne-zero k e)
not-large k false e = refl

-- ---- what a refusal comes to

-- an answer tells its number: a refusal is one with that number, and a value says that none fits
pub refused-by : {A : Type 0} (f : ℕ) (v : A) {e : Refusal} → Err e ≡ answer_or f v → (e.0 ≡ f) × (f ≡ 0 → ⊥)
unfolding answer_or
refused-by zero v p = cc
refused-by (suc k) v {e} p = let q : e ≡ record { 0 = suc k } = cc in (ap (λ (x : Refusal). x.0) q, suc-ne-zero k)

pub passed-by : {A : Type 0} (f : ℕ) (v : A) {w : A} → Ok w ≡ answer_or f v → f ≡ 0
unfolding answer_or
passed-by zero v p = refl
passed-by (suc k) v p = cc

-- so another answer by that number is the same refusal, or its value; and what was there is left, or is not
module _ {A B : Type 0} (f : ℕ) (v : A) {r : Result A Refusal} (by : r ≡ answer_or f v) where
  pub refusing : {e : Refusal} → r ≡ Err e → (w : B) → Err e ≡ answer_or f w
  unfolding answer_or
  refusing h w = go f v (sym h ∙ by)
    where
      go : {e : Refusal} (f : ℕ) (v : A) → Err e ≡ answer_or f v → Err e ≡ answer_or f w
      go zero v p = cc
      go {e} (suc k) v p = let q : e ≡ record { 0 = suc k } = cc in ap (λ (x : Refusal). Err x) q

  pub passing : {u : A} → r ≡ Ok u → (w : B) → Ok w ≡ answer_or f w
  unfolding answer_or
  passing h w = ap (λ (k : ℕ). answer_or k w) (sym (passed-by f v (sym h ∙ by)))

  pub kept : {e : Refusal} → r ≡ Err e → (old new : B) → old ≡ left_or f old new
  kept h old new = go f (refused-by f v (sym h ∙ by)).1
    where
      go : (f : ℕ) → (f ≡ 0 → ⊥) → old ≡ left_or f old new
      go zero n = absurd (n refl)
      go (suc k) n = refl

  pub made : {u : A} → r ≡ Ok u → (old new : B) → new ≡ left_or f old new
  made h old new = ap (λ (k : ℕ). left_or k old new) (sym (passed-by f v (sym h ∙ by)))

pub value-is : {A : Type 0} (f : ℕ) (v c : A) → answer_or f v ≡ Ok c → (f ≡ 0) × (v ≡ c)
unfolding answer_or
value-is zero v c e = (refl, cc)
value-is (suc k) v c e = cc

pub done_none : (f : ℕ) → done_or f ≡ Ok tt → f ≡ 0
done_none f e = passed-by f tt (sym e)

-- what a call says of its value
pub if-ok : {A : Type 0} {r : Result A Refusal} {u : A} (P : Type 0) → r ≡ Ok u → IfOk r (λ _. P) → P
if-ok {A} {r} {u} P e h = let Q : Result A Refusal → Type 0 = λ r. IfOk r (λ _. P) in let q : Q (Ok u) = subst Q e h in q

pub ok-when : {A : Type 0} {P : Type 0} (r : Result A Refusal) → ((u : A) → r ≡ Ok u → P) → IfOk r (λ _. P)
ok-when (Ok u) h = h u refl
ok-when (Err e) h = tt

-- ---- one test after another: the first that refuses, else what the next answers

pub first_by : {A B : Type 0} (f g : ℕ) (v : A) {r : Result A Refusal} {e : Refusal} → r ≡ answer_or f v → r ≡ Err e → (w : B) → Err e ≡ answer_or (or_else f g) w
unfolding answer_or
first_by zero g v by h w = let q : Err _ ≡ Ok v = sym h ∙ by in cc
first_by (suc k) g v by h w = refusing (suc k) v by h w

pub next_by : {A B : Type 0} (f g : ℕ) (v : A) {r : Result A Refusal} {u : A} {t : Result B Refusal} → r ≡ answer_or f v → r ≡ Ok u → (w : B) → t ≡ answer_or g w
    → t ≡ answer_or (or_else f g) w
next_by f g v by h w e = e ∙ ap (λ (k : ℕ). answer_or (or_else k g) w) (sym (passed-by f v (sym h ∙ by)))

pub first-kept : {A B : Type 0} (f g : ℕ) (v : A) {r : Result A Refusal} {e : Refusal} → r ≡ answer_or f v → r ≡ Err e → (old new : B) → old ≡ left_or (or_else f g) old new
unfolding answer_or
first-kept zero g v by h old new = let q : Err _ ≡ Ok v = sym h ∙ by in cc
first-kept (suc k) g v by h old new = refl

pub next-left : {A B : Type 0} (f g : ℕ) (v : A) {r : Result A Refusal} {u : A} → r ≡ answer_or f v → r ≡ Ok u → (old new : B) {is : B} → is ≡ left_or g old new → is ≡ left_or (or_else f g) old new
next-left f g v by h old new e = e ∙ ap (λ (k : ℕ). left_or (or_else k g) old new) (sym (passed-by f v (sym h ∙ by)))

-- ---- two parts of a call

pub smaller-is : (f g : ℕ) → smaller (done_or f) (done_or g) ≡ done_or (least f g)
unfolding answer_or least
smaller-is zero g = refl
smaller-is (suc f) zero = refl
smaller-is (suc f) (suc g) = go (ltb (suc f) (suc g))
  where
    go : (b : Bool) → Err (cond b (record { 0 = suc f }) (record { 0 = suc g })) ≡ done_or (cond b (suc f) (suc g))
    go true = refl
    go false = refl

-- neither is refused where the call is not
pub both-ok : (a b : Result Unit Refusal) {u : Unit} → smaller a b ≡ Ok u → (a ≡ Ok tt) × (b ≡ Ok tt)
both-ok (Ok a) (Ok b) e = (refl, refl)
both-ok (Ok a) (Err r) e = cc
both-ok (Err l) (Ok b) e = cc
both-ok (Err l) (Err r) e = cc

-- ---- lengths

pub lengths-fit : (m w x z p : ℕ) → bad_lengths m w x z p ≡ false → (x ≡ m * w) × (z ≡ m * w) × (p ≡ phase_units m)
lengths-fit m w x z p e =
    let a = none_of (not (eqb x (m * w))) _ e in
    let b = none_of (not (eqb z (m * w))) (not (eqb p (phase_units m))) a.1 in
    (eqb-true x (m * w) (not-false _ a.0), eqb-true z (m * w) (not-false _ b.0), eqb-true p (phase_units m) (not-false _ b.1))

-- those of a set
pub set-lengths : (w : ℕ) (M : Mem) → wrong_lengths w M ≡ false → (length M.xs ≡ count M * w) × (length M.zs ≡ count M * w) × (length M.es ≡ phase_units (count M))
set-lengths w M e = lengths-fit (count M) w (length M.xs) (length M.zs) (length M.es) e
