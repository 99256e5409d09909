-- The test of reduced form, the walk along the order, and RULES 5.10 are the same. A column more at the front is passed over by all three, or is the pivot
-- column of the first row left in all three; places in the order are then one further. Assumes nothing.
use Prim.Native.Nat.{ℕ, zero, suc, ◌<◌, ◌≤◌}
use native.Mathlib.Decide.{dec_lt}
use native.Mathlib.Omega.{arith}
use mathlib.Core.Path.{◌≡◌, refl, sym, ap, ◌∙◌, subst}
use mathlib.Core.Logic.{◌⊎◌, inl, inr, ⊎_elim, ◌↔◌}
use mathlib.Core.Bool.{Bool, true, false, not, ◌||◌, false≢true}
use mathlib.Core.List.{List, [], ◌∷◌, ◌++◌}
use lib.Dec.{eqb}
use lib.ListN.{length, get_or}
use borrow.Author.Tests.{eqb-true, eq-eqb, ne_eqb, not-true}
use Rattle.pauli.proofs.Bools.{cond_ind, and_left, and_right, and_both, or-true-or}
use Rattle.reduction.specs.Lists.{In, Distinct}
use Rattle.reduction.specs.Form.{Form, ReducedForm, zeros_in, only_in, reduced_from, reduced}
use Rattle.reduction.proofs.Lists.{every→, →every, same?, in_left, in-get_or, place_of}
use Rattle.reduction.proofs.Walk.{Walk, end, skip, pivot_at, pivots}

lt? : (a b : ℕ) → (a < b) ⊎ (b ≤ a)
lt? a b = go (dec_lt a b)
  where
    go : Dec (a < b) → (a < b) ⊎ (b ≤ a)
    go (yes l) = inl l
    go (no l) = inr (omega arith)

-- places one further, and a first place; and back
abbrev further : (ℕ → ℕ) → ℕ → ℕ
further f zero = zero
further f (suc j) = suc (f j)

abbrev less : ℕ → ℕ
less zero = zero
less (suc n) = n

less-is : (n : ℕ) → 0 < n → suc (less n) ≡ n
less-is zero h = omega arith
less-is (suc n) h = refl

get_or-less : (c : ℕ) (cs : List ℕ) (n : ℕ) → 0 < n → get_or (c ∷ cs) n 0 ≡ get_or cs (less n) 0
get_or-less c cs zero h = omega arith
get_or-less c cs (suc n) h = refl

module _ {R : Type 0} (bit : R → ℕ → Bool) (σ : ℕ → R) (all : List ℕ) where
  none_left : (order : List ℕ) → Walk bit σ all [] order
  none_left [] = end
  none_left (c ∷ cs) = skip (λ k m. absurd m) (none_left cs)

  test→walk : (rest order : List ℕ) → reduced_from bit σ all rest order ≡ true → Walk bit σ all rest order
  unfolding reduced_from zeros_in only_in
  test→walk rest [] = λ e. end
  test→walk [] (c ∷ cs) = λ e. none_left (c ∷ cs)
  test→walk (p ∷ rest) (c ∷ cs) =
      cond_ind (λ b. b ≡ true → Walk bit σ all (p ∷ rest) (c ∷ cs)) (zeros_in bit σ c (p ∷ rest))
      (λ z e. skip (λ k m. not-true _ (every→ (λ j. not (bit (σ j) c)) (p ∷ rest) z k m)) (test→walk (p ∷ rest) cs e))
      (λ z e.
      let o = and_left (only_in bit σ c p all) _ e in
      pivot_at (and_left (bit (σ p) c) _ o)
      (λ k m n. ⊎_elim (λ q. absurd (n (eqb-true k p q))) (λ q. not-true _ q) (or-true-or (eqb k p) _ (every→ (λ j. eqb j p || not (bit (σ j) c)) all (and_right (bit (σ p) c) _ o) k m)))
      (test→walk rest cs (and_right (only_in bit σ c p all) _ e)))

  walk→test : {rest order : List ℕ} → Walk bit σ all rest order → reduced_from bit σ all rest order ≡ true
  unfolding reduced_from zeros_in only_in
  walk→test end = refl
  walk→test (skip {rest = []} z r) = refl
  walk→test (skip {rest = p ∷ rest} {c} {cs} z r) =
      cond_ind (λ b. b ≡ true) (zeros_in bit σ c (p ∷ rest)) (λ _. walk→test r) (λ n. absurd (false≢true (sym n ∙ →every (λ j. not (bit (σ j) c)) (p ∷ rest) (λ k m. ap not (z k m)))))
  walk→test (pivot_at {p} {rest} {c} {cs} o y r) =
      cond_ind (λ b. b ≡ true) (zeros_in bit σ c (p ∷ rest))
      (λ z. absurd (false≢true (sym (not-true _ (every→ (λ j. not (bit (σ j) c)) (p ∷ rest) z p (inl refl))) ∙ o)))
      (λ _. and_both (and_both o (→every (λ j. eqb j p || not (bit (σ j) c)) all (λ k m. ⊎_elim (λ q. ap (λ b. b || not (bit (σ k) c)) (eq-eqb k p q)) (λ n. ap (λ b. b || not (bit (σ k) c)) (ne_eqb k p n) ∙ ap not (y k m n)) (same? k p)))) (walk→test r))

  walk→form : {rest order : List ℕ} → Distinct rest → ((k : ℕ) → In k rest → In k all) → Walk bit σ all rest order → Form bit σ all rest order
  walk→form d sub end =
      record {
        t = 0;
        place = λ _. 0;
        fits = omega arith;
        inside = λ j h. omega arith;
        rising = λ i j h h'. omega arith;
        one = λ j h. absurd (omega arith);
        before = λ j p h h'. absurd (omega arith);
        others = λ j k h m n. absurd (omega arith);
        after = λ j p h h' h''. absurd (omega arith);
      }
  walk→form d sub (skip {rest} {c} {cs} z r) =
      let F = walk→form d sub r in
      record {
        t = F.t;
        place = λ j. suc (F.place j);
        fits = F.fits;
        inside = λ j h. omega (arith, F.inside j h);
        rising = λ i j h h'. omega (arith, F.rising i j h h');
        one = F.one;
        others = F.others;
        before = λ j. elim [ zero ↦ λ h h'. z _ (in-get_or rest j (omega (arith, F.fits))) | suc q ↦ λ h h'. F.before j q h (omega arith) ];
        after = λ j. elim [ zero ↦ λ h h' h''. z _ (in-get_or rest j h') | suc q ↦ λ h h' h''. F.after j q h h' (omega arith) ];
      }
  walk→form d sub (pivot_at {p} {rest} {c} {cs} o y r) =
      let F = walk→form d.1 (λ k m. sub k (inr m)) r in
      let zero-at : (j : ℕ) → j < length rest → bit (σ (get_or rest j 0)) c ≡ false
      = λ j h. let m = in-get_or rest j h in y _ (sub _ (inr m)) (λ q. d.0 (subst (λ i. In i rest) q m)) in
      record {
        t = suc F.t;
        place = further F.place;
        fits = omega (arith, F.fits);
        inside = elim [ zero ↦ λ h. omega arith | suc i ↦ λ h. omega (arith, F.inside i (omega arith)) ];
        rising = elim [ zero ↦ elim [ zero ↦ λ h h'. absurd (omega arith) | suc j' ↦ λ h h'. omega arith ] | suc i' ↦ elim [ zero ↦ λ h h'. absurd (omega arith) | suc j' ↦ λ h h'. omega (arith, F.rising i' j' (omega arith) (omega arith)) ] ];
        one = elim [ zero ↦ λ h. o | suc i ↦ λ h. F.one i (omega arith) ];
        before = elim [ zero ↦ λ q h h'. absurd (omega arith) | suc i ↦ elim [ zero ↦ λ h h'. zero-at i (omega (arith, F.fits)) | suc q' ↦ λ h h'. F.before i q' (omega arith) (omega arith) ] ];
        others = elim [ zero ↦ λ k h m n. y k m n | suc i ↦ λ k h m n. F.others i k (omega arith) m n ];
        after = elim [ zero ↦ λ q h h' h''. absurd (omega arith) | suc i ↦ elim [ zero ↦ λ h h' h''. zero-at i (omega arith) | suc q' ↦ λ h h' h''. F.after i q' (omega arith) (omega arith) (omega arith) ] ];
      }

  form-pivots : {rest order : List ℕ} (d : Distinct rest) (sub : (k : ℕ) → In k rest → In k all) (w : Walk bit σ all rest order) → (walk→form d sub w).t ≡ pivots w
  unfolding walk→form pivots
  form-pivots d sub end = refl
  form-pivots d sub (skip z r) = form-pivots d sub r
  form-pivots d sub (pivot_at o y r) = ap suc (form-pivots d.1 (λ k m. sub k (inr m)) r)

  -- a form whose pivot columns all come later
  form-skip : (rest : List ℕ) (c : ℕ) (cs : List ℕ) (F : Form bit σ all rest (c ∷ cs)) → ((j : ℕ) → j < F.t → 0 < F.place j) → Form bit σ all rest cs
  form-skip rest c cs F h =
      record {
        t = F.t;
        place = λ j. less (F.place j);
        fits = F.fits;
        inside = λ j hj. omega (arith, F.inside j hj, less-is (F.place j) (h j hj));
        rising = λ i j hi hj. omega (arith, F.rising i j hi hj, less-is (F.place i) (h i (omega arith)), less-is (F.place j) (h j hj));
        one = λ j hj. ap (λ x. bit (σ (get_or rest j 0)) x) (sym (get_or-less c cs (F.place j) (h j hj))) ∙ F.one j hj;
        before = λ j p hj hp. F.before j (suc p) hj (omega (arith, less-is (F.place j) (h j hj)));
        others = λ j k hj m n. ap (λ x. bit (σ k) x) (sym (get_or-less c cs (F.place j) (h j hj))) ∙ F.others j k hj m n;
        after = λ j p hj hl hp. F.after j (suc p) hj hl (omega arith);
      }

  skip-zero : (rest : List ℕ) (c : ℕ) (cs : List ℕ) (F : Form bit σ all rest (c ∷ cs)) → ((j : ℕ) → j < F.t → 0 < F.place j) → (k : ℕ) → In k rest → bit (σ k) c ≡ false
  skip-zero rest c cs F h k m =
      let r = place_of k rest m in
      let j = r.0 in
      ap (λ i. bit (σ i) c) r.2 ∙ ⊎_elim (λ l. F.before j 0 l (h j l)) (λ l. F.after j 0 l r.1 (omega arith)) (lt? j F.t)

  form-pivot : (p : ℕ) (rest : List ℕ) (c : ℕ) (cs : List ℕ) (F : Form bit σ all (p ∷ rest) (c ∷ cs)) (t' : ℕ) → F.t ≡ suc t' → F.place 0 ≡ 0 → Form bit σ all rest cs
  form-pivot p rest c cs F t' ht h0 =
      let pos : (j : ℕ) → j < t' → 0 < F.place (suc j) = λ j hj. omega (arith, F.rising 0 (suc j) (omega arith) (omega arith)) in
      record {
        t = t';
        place = λ j. less (F.place (suc j));
        fits = omega (arith, F.fits);
        inside = λ j hj. omega (arith, F.inside (suc j) (omega arith), less-is (F.place (suc j)) (pos j hj));
        rising = λ i j hi hj. omega (arith, F.rising (suc i) (suc j) (omega arith) (omega arith), less-is (F.place (suc i)) (pos i (omega arith)), less-is (F.place (suc j)) (pos j hj));
        one = λ j hj. ap (λ x. bit (σ (get_or rest j 0)) x) (sym (get_or-less c cs (F.place (suc j)) (pos j hj))) ∙ F.one (suc j) (omega arith);
        before = λ j q hj hq. F.before (suc j) (suc q) (omega arith) (omega (arith, less-is (F.place (suc j)) (pos j hj)));
        others = λ j k hj m n. ap (λ x. bit (σ k) x) (sym (get_or-less c cs (F.place (suc j)) (pos j hj))) ∙ F.others (suc j) k (omega arith) m n;
        after = λ j q hj hl hq. F.after (suc j) (suc q) (omega arith) (omega arith) (omega arith);
      }

  form-step : (c : ℕ) (cs : List ℕ) → ((rest : List ℕ) → Form bit σ all rest cs → Walk bit σ all rest cs)
      → (rest : List ℕ) (F : Form bit σ all rest (c ∷ cs)) (t q : ℕ) → F.t ≡ t → F.place 0 ≡ q → Walk bit σ all rest (c ∷ cs)
  form-step c cs rec rest F zero q ht hq =
      let pos : (j : ℕ) → j < F.t → 0 < F.place j = λ j h. omega arith in
      skip (skip-zero rest c cs F pos) (rec rest (form-skip rest c cs F pos))
  form-step c cs rec rest F (suc t) (suc q) ht hq =
      let pos : (j : ℕ) → j < F.t → 0 < F.place j = elim [ zero ↦ λ h. omega arith | suc i ↦ λ h. omega (arith, F.rising 0 (suc i) (omega arith) h) ] in
      skip (skip-zero rest c cs F pos) (rec rest (form-skip rest c cs F pos))
  form-step c cs rec [] F (suc t) zero ht hq = absurd (omega (arith, F.fits))
  form-step c cs rec (p ∷ rest) F (suc t) zero ht hq =
      pivot_at (subst (λ n. bit (σ p) (get_or (c ∷ cs) n 0) ≡ true) hq (F.one 0 (omega arith)))
      (λ k m n. subst (λ i. bit (σ k) (get_or (c ∷ cs) i 0) ≡ false) hq (F.others 0 k (omega arith) m n))
      (rec rest (form-pivot p rest c cs F t ht hq))

  form→walk : (rest order : List ℕ) → Form bit σ all rest order → Walk bit σ all rest order
  form→walk rest [] F = end
  form→walk rest (c ∷ cs) F = form-step c cs (λ rest' F'. form→walk rest' cs F') rest F F.t (F.place 0) refl refl

-- ---- the three forms

module _ {R : Type 0} (bit : R → ℕ → Bool) (order listed extra : List ℕ) (once : Distinct listed) (σ : ℕ → R) where
  pub walk-iff-form : Walk bit σ (listed ++ extra) listed order ↔ ReducedForm bit order listed extra σ
  walk-iff-form = (walk→form bit σ (listed ++ extra) once (λ k m. in_left k listed extra m), form→walk bit σ (listed ++ extra) listed order)

  -- the t of the form is the number of pivots walked past
  pub walk-pivots : (w : Walk bit σ (listed ++ extra) listed order) → (walk-iff-form.0 w).t ≡ pivots w
  unfolding walk-iff-form
  walk-pivots w = form-pivots bit σ (listed ++ extra) once (λ k m. in_left k listed extra m) w

  pub test-iff-walk : (reduced bit order listed extra σ ≡ true) ↔ Walk bit σ (listed ++ extra) listed order
  unfolding reduced
  test-iff-walk = (test→walk bit σ (listed ++ extra) listed order, walk→test bit σ (listed ++ extra))

  -- Document 01's wording and the test say the same.
  pub test-iff-form : (reduced bit order listed extra σ ≡ true) ↔ ReducedForm bit order listed extra σ
  test-iff-form = (λ e. walk-iff-form.0 (test-iff-walk.0 e), λ f. test-iff-walk.1 (walk-iff-form.1 f))
