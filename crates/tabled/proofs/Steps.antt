-- Each lazy step, settled, is the rule's step on what was settled: a product that is put off is one by a table entry that has the pivot as its last
-- factor, and products are associative. Assumes nothing.
use Prim.Native.Nat.{ℕ, ◌+◌, ◌-◌, ◌^◌, ◌<◌, ◌≤◌}
use native.Mathlib.Omega.{arith}
use native.Mathlib.Nat.{zero-add}
use mathlib.Core.Path.{◌≡◌, refl, sym, ap, ◌∙◌, fun_ext}
use mathlib.Core.Logic.{⊎_elim}
use mathlib.Core.Bool.{cond}
use mathlib.Core.List.{List, [], ◌∷◌, ◌++◌}
use lib.Dec.{eqb, ltb}
use borrow.Author.Tests.{eq-eqb, ne_eqb, lt-ltb, le-ltb}
use Rattle.reduction.specs.Rule.{Entry, entry, Run, mul_at, multiply}
use Rattle.reduction.proofs.Lists.{same?}
use Rattle.tabled.specs.Workers.{Lazy, put_at, paid, row_of, settle, pay, pay_all, doubled, Doubles, with_table, multiply_l}

pub put-here : {A : Type 0} (f : ℕ → A) (a : ℕ) (v : A) (k : ℕ) → k ≡ a → put_at f a v k ≡ v
unfolding put_at
put-here f a v k e = ap (λ b. cond b v (f k)) (eq-eqb k a e)

pub put_other : {A : Type 0} (f : ℕ → A) (a : ℕ) (v : A) (k : ℕ) → (k ≡ a → ⊥) → put_at f a v k ≡ f k
unfolding put_at
put_other f a v k n = ap (λ b. cond b v (f k)) (ne_eqb k a n)

pub mul_at-here : {R : Type 0} (mul : R → R → R) (σ : ℕ → R) (a b k : ℕ) → k ≡ a → mul_at mul σ a b k ≡ mul (σ a) (σ b)
unfolding mul_at
mul_at-here mul σ a b k e = ap (λ x. cond x (mul (σ a) (σ b)) (σ k)) (eq-eqb k a e)

pub mul_at-other : {R : Type 0} (mul : R → R → R) (σ : ℕ → R) (a b k : ℕ) → (k ≡ a → ⊥) → mul_at mul σ a b k ≡ σ k
unfolding mul_at
mul_at-other mul σ a b k n = ap (λ x. cond x (mul (σ a) (σ b)) (σ k)) (ne_eqb k a n)

abbrev pub run_of : {R : Type 0} → (ℕ → R) → List Entry → ℕ → Run R
run_of σ log t = record { rows = σ; log = log; t = t }

module _ {R : Type 0} (mul : R → R → R) where
  -- owing nothing, and owing something
  pub paid-none : (T : ℕ → R) (r : R) (n : ℕ) → n ≡ 0 → paid mul T r n ≡ r
  unfolding paid
  paid-none T r n e = ap (λ b. cond b r (mul r (T n))) (eq-eqb n 0 e)

  pub paid-some : (T : ℕ → R) (r : R) (n : ℕ) → (n ≡ 0 → ⊥) → paid mul T r n ≡ mul r (T n)
  unfolding paid
  paid-some T r n h = ap (λ b. cond b r (mul r (T n))) (ne_eqb n 0 h)

  -- ---- paying: no row changes, and the row that paid owes nothing

  pub pay-row : (k : ℕ) (s : Lazy R) (i : ℕ) → row_of mul (pay mul k s) i ≡ row_of mul s i
  unfolding pay
  pay-row k s i =
      let T = s.table in
      let r = put_at s.rows k (row_of mul s k) i in
      let n = put_at s.owed k 0 i in
      ⊎_elim
      (λ e. paid-none T r n (put-here s.owed k 0 i e) ∙ put-here s.rows k (row_of mul s k) i e ∙ ap (λ x. row_of mul s x) (sym e))
      (λ h. ap (λ x. paid mul T x n) (put_other s.rows k (row_of mul s k) i h) ∙ ap (λ x. paid mul T (s.rows i) x) (put_other s.owed k 0 i h))
      (same? i k)

  pub pay-settle : (k : ℕ) (s : Lazy R) → settle mul (pay mul k s) ≡ settle mul s
  unfolding pay settle
  pay-settle k s = ap (λ σ. run_of σ s.log s.t) (fun_ext (pay-row k s))

  pub pay-here : (k : ℕ) (s : Lazy R) → (pay mul k s).owed k ≡ 0
  unfolding pay
  pay-here k s = put-here s.owed k 0 k refl

  -- what was not owed is not owed
  pub pay-none : (k : ℕ) (s : Lazy R) (i : ℕ) → s.owed i ≡ 0 → (pay mul k s).owed i ≡ 0
  unfolding pay
  pay-none k s i e = ⊎_elim (λ q. put-here s.owed k 0 i q) (λ h. put_other s.owed k 0 i h ∙ e) (same? i k)

  pub pay-small : (k m : ℕ) (s : Lazy R) → 0 < m → ((i : ℕ) → s.owed i < m) → (i : ℕ) → (pay mul k s).owed i < m
  unfolding pay
  pay-small k m s hm h i = ⊎_elim (λ q. omega (arith, put-here s.owed k 0 i q)) (λ n. omega (arith, put_other s.owed k 0 i n, h i)) (same? i k)

  -- where no row owes anything, the rows are as they lie
  pub all_paid : (s : Lazy R) → ((k : ℕ) → s.owed k ≡ 0) → row_of mul s ≡ s.rows
  all_paid s h = fun_ext (λ k. paid-none s.table (s.rows k) (s.owed k) (h k))

  pub pay-all : (s : Lazy R) → settle mul (pay_all mul s) ≡ settle mul s
  unfolding pay_all settle paid
  pay-all s = refl

  -- ---- a product of two rows that owe nothing

  pub multiply-settle : (a b : ℕ) (s : Lazy R) → s.owed a ≡ 0 → s.owed b ≡ 0 → settle mul (multiply_l mul a b s) ≡ multiply mul a b (settle mul s)
  unfolding multiply_l multiply settle
  multiply-settle a b s ha hb = ap (λ σ. run_of σ (s.log ++ (entry a b ∷ [])) s.t) (fun_ext at)
    where
      at : (i : ℕ) → paid mul s.table (mul_at mul s.rows a b i) (s.owed i) ≡ mul_at mul (row_of mul s) a b i
      at i =
          ⊎_elim
          (λ e. ap (λ x. paid mul s.table x (s.owed i)) (mul_at-here mul s.rows a b i e) ∙ paid-none s.table (mul (s.rows a) (s.rows b)) (s.owed i) (ap s.owed e ∙ ha)
          ∙ sym (mul_at-here mul (row_of mul s) a b i e ∙ ap (λ x. mul x (row_of mul s b)) (paid-none s.table (s.rows a) (s.owed a) ha) ∙ ap (λ x. mul (s.rows a) x) (paid-none s.table (s.rows b) (s.owed b) hb)))
          (λ n. ap (λ x. paid mul s.table x (s.owed i)) (mul_at-other mul s.rows a b i n) ∙ sym (mul_at-other mul (row_of mul s) a b i n))
          (same? i a)

  -- ---- the table

  pub doubled-below : (o : ℕ) (f : R) (T : ℕ → R) (n : ℕ) → n < o → doubled mul o f T n ≡ T n
  unfolding doubled
  doubled-below o f T n h = ap (λ b. cond b (T n) (cond (ltb n (o + o)) (cond (eqb n o) f (mul (T (n - o)) f)) (T n))) (lt-ltb n o h)

  doubled-new : (o : ℕ) (f : R) (T : ℕ → R) (n : ℕ) → o ≤ n → n < o + o → doubled mul o f T n ≡ cond (eqb n o) f (mul (T (n - o)) f)
  unfolding doubled
  doubled-new o f T n h l =
      ap (λ b. cond b (T n) (cond (ltb n (o + o)) (cond (eqb n o) f (mul (T (n - o)) f)) (T n))) (le-ltb n o h)
      ∙ ap (λ b. cond b (cond (eqb n o) f (mul (T (n - o)) f)) (T n)) (lt-ltb n (o + o) l)

  pub doubled-at : (o : ℕ) (f : R) (T : ℕ → R) → 0 < o → doubled mul o f T o ≡ f
  doubled-at o f T h = doubled-new o f T o (omega arith) (omega arith) ∙ ap (λ b. cond b f (mul (T (o - o)) f)) (eq-eqb o o refl)

  pub doubled-above : (o : ℕ) (f : R) (T : ℕ → R) (c : ℕ) → 0 < c → c < o → doubled mul o f T (c + o) ≡ mul (T c) f
  doubled-above o f T c h l =
      let q : c + o - o ≡ c = omega arith in
      doubled-new o f T (c + o) (omega arith) (omega arith) ∙ ap (λ b. cond b f (mul (T (c + o - o)) f)) (ne_eqb (c + o) o (λ e. omega arith)) ∙ ap (λ x. mul (T x) f) q

  pub doubled-doubles : (o : ℕ) (f : R) (T : ℕ → R) → 0 < o → Doubles mul o f T (doubled mul o f T)
  doubled-doubles o f T h = record { below = doubled-below o f T; at = doubled-at o f T h; above = doubled-above o f T }

  -- a table that has the same entries below o pays the same
  pub paid-same : (T T' : ℕ → R) (o : ℕ) → ((n : ℕ) → n < o → T' n ≡ T n) → (r : R) (n : ℕ) → n < o → paid mul T' r n ≡ paid mul T r n
  unfolding paid
  paid-same T T' o h r n l = ap (λ x. cond (eqb n 0) r (mul r x)) (h n l)

  -- the new pivot is owed by none, so no row changes
  pub freeze-settle : (f : R) (T' : ℕ → R) (s : Lazy R) → Doubles mul (2 ^ s.pivots) f s.table T' → ((k : ℕ) → s.owed k < 2 ^ s.pivots)
      → settle mul (with_table T' s) ≡ settle mul s
  unfolding with_table settle
  freeze-settle f T' s D h = ap (λ σ. run_of σ s.log s.t) (fun_ext (λ k. paid-same s.table T' (2 ^ s.pivots) D.below (s.rows k) (s.owed k) (h k)))

  -- owing the new pivot too is the product by it
  pub paid-more : ((a b c : R) → mul (mul a b) c ≡ mul a (mul b c)) → (T : ℕ → R) (f : R) (o : ℕ) → 0 < o → T o ≡ f → (r : R) (n : ℕ) → (0 < n → T (n + o) ≡ mul (T n) f)
      → paid mul T r (n + o) ≡ mul (paid mul T r n) f
  paid-more assoc T f o ho e r n h =
      paid-some T r (n + o) (λ q. omega arith)
      ∙ ⊎_elim
      (λ q. ap (λ x. mul r (T x)) (ap (λ x. x + o) q ∙ zero-add o) ∙ ap (λ x. mul r x) e ∙ ap (λ x. mul x f) (sym (paid-none T r n q)))
      (λ q. ap (λ x. mul r x) (h (omega arith)) ∙ sym (assoc r (T n) f) ∙ ap (λ x. mul x f) (sym (paid-some T r n q)))
      (same? n 0)
