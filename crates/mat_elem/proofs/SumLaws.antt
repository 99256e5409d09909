-- The sum over a block is the sum from the block's first place up to, not including, its last, whatever is added; so are its partial sums; whether there is
-- a block; and the turned parts by look-up. Assumes nothing.
use Rattle.std.proofs.Common.{◌≡◌, ℕ, zero, suc, ◌+◌, ◌-◌, ◌%◌, ◌<◌, ◌≤◌, Bool, true, false, eqb, leb, ◌↔◌, List, [], ◌∷◌, length, get_or, sym, refl, ap, ◌∙◌, ap₂, le_trans, le_refl, lt_of_lt_of_le, le_of_suc-le-suc, suc-add, lt_of_not-le, zero-add, add-one, arith, eq-eqb, ne_eqb, le-leb}
use native.Mathlib.Decide.{dec_le}
use borrow.Author.Tests.{eqb-false, lt-leb}
use Rattle.encoding.specs.Refusals.{some_below}
use Rattle.encoding.proofs.Scan.{some-none, some-never, some_at, any_same, any-past}
use Rattle.mat_elem.specs.Terms.{in_block, has_a_block}
use Rattle.mat_elem.specs.Workers.{BlockOf}
use Rattle.mat_elem.specs.Sums.{turned, step_if, sum_over}

module _ {A : Type 0} (plus : A → A → A) (none : A) (term : ℕ → A) where
  -- d places more, none of them picked
  skip : (at : ℕ → Bool) (i d : ℕ) → ((k : ℕ) → i ≤ k → k < d + i → at k ≡ false) → sum_over at plus none term (d + i) ≡ sum_over at plus none term i
  unfolding sum_over
  skip at i zero h = rw zero-add
  skip at i (suc d) h = rw (suc-add d i, h (d + i) (omega arith) (omega arith)) (skip at i d (λ k l u. h k l (omega arith)))

  sum_same : (at : ℕ → Bool) (i n : ℕ) → i ≤ n → ((k : ℕ) → i ≤ k → k < n → at k ≡ false) → sum_over at plus none term n ≡ sum_over at plus none term i
  sum_same at i n l h =
      let e : (n - i) + i ≡ n = omega arith in
      ap (λ (k : ℕ). sum_over at plus none term k) (sym e) ∙ skip at i (n - i) (λ k x y. h k x (omega arith))

  -- the same places picked
  sum-pick : (at by : ℕ → Bool) (n : ℕ) → ((k : ℕ) → k < n → at k ≡ by k) → sum_over at plus none term n ≡ sum_over by plus none term n
  unfolding sum_over
  sum-pick at by zero h = refl
  sum-pick at by (suc n) h =
      ap₂ (λ (b : Bool) (s : A). step_if b (λ (r : A). plus r (term n)) s) (h n (omega arith)) (sum-pick at by n (λ k l. h k (omega arith)))

  -- ---- from `first` on: nothing yet, and one more
  pub range_none : (first n : ℕ) → n ≤ first → none ≡ sum_over (λ i. leb first i) plus none term n
  unfolding sum_over
  range_none first n l = sym (sum_same (λ i. leb first i) 0 n (omega arith) (λ k _ h. lt-leb first k (lt_of_lt_of_le h l)))

  pub range-next : (first i : ℕ) → first ≤ i → sum_over (λ i. leb first i) plus none term (i + 1) ≡ plus (sum_over (λ i. leb first i) plus none term i) (term i)
  unfolding sum_over
  range-next first i h = rw (add-one, le-leb first i h)

  -- ---- the block
  module _ (xs : List ℕ) (t first last : ℕ) (b : BlockOf xs t first last) where
    block-upto : (n : ℕ) → n ≤ last → sum_over (in_block xs t) plus none term n ≡ sum_over (λ i. leb first i) plus none term n
    block-upto n l = sum-pick (in_block xs t) (λ i. leb first i) n (λ k h. go k (lt_of_lt_of_le h l) (dec_le first k))
      where
        go : (k : ℕ) → k < last → Dec (first ≤ k) → in_block xs t k ≡ leb first k
        go k h (yes p) = eq-eqb (get_or xs k 0) t (b.inside k p h) ∙ sym (le-leb first k p)
        go k h (no p) =
            let u : get_or xs k 0 < t = b.before k (lt_of_not-le p) in
            ne_eqb (get_or xs k 0) t (λ e. omega arith) ∙ sym (lt-leb first k (lt_of_not-le p))

    after : (n : ℕ) → last ≤ n → n ≤ length xs → sum_over (in_block xs t) plus none term n ≡ sum_over (in_block xs t) plus none term last
    after n l h = sum_same (in_block xs t) last n l (λ k i u. ne_eqb (get_or xs k 0) t (ne-gt _ _ (b.after k i (lt_of_lt_of_le u h))))
      where
        ne-gt : (m n : ℕ) → n < m → m ≡ n → ⊥
        ne-gt m n h e = omega arith

    pub block-range : sum_over (in_block xs t) plus none term (length xs) ≡ sum_over (λ i. leb first i) plus none term last
    block-range = after (length xs) b.within (le_refl (length xs)) ∙ block-upto last (le_refl last)

    -- a test of the partial sums
    pub block-some : (p : A → Bool)
        → some_below (suc (length xs)) (λ n. p (sum_over (in_block xs t) plus none term n)) ≡ some_below (suc last) (λ n. p (sum_over (λ i. leb first i) plus none term n))
    block-some p =
        any-past (λ n. p (sum_over (in_block xs t) plus none term n)) last (length xs) b.within (λ k i l. ap p (after k i (le_of_suc-le-suc l)))
        ∙ any_same (λ n. p (sum_over (in_block xs t) plus none term n)) (λ n. p (sum_over (λ i. leb first i) plus none term n)) (suc last) (λ k l. ap p (block-upto k (le_of_suc-le-suc l)))

-- ---- whether there is a block

-- there is none exactly when no term has that X
pub no-term : (xs : List ℕ) (t : ℕ) → (has_a_block xs t ≡ false) ↔ ((k : ℕ) → k < length xs → get_or xs k 0 ≡ t → ⊥)
no-term xs t = (λ e k h. eqb-false (get_or xs k 0) t (some-none (λ w. eqb w t) 0 xs e k h), λ h. some-never (λ w. eqb w t) 0 xs (λ k l. ne_eqb (get_or xs k 0) t (h k l)))

-- where there is none the sum is what it starts from
pub sum-empty : {A : Type 0} (plus : A → A → A) (none : A) (term : ℕ → A) (xs : List ℕ) (t : ℕ) → has_a_block xs t ≡ false
    → sum_over (in_block xs t) plus none term (length xs) ≡ none
unfolding sum_over
sum-empty plus none term xs t e =
    sum_same plus none term (in_block xs t) 0 (length xs) (omega arith) (λ k _ h. some-none (λ w. eqb w t) 0 xs e k h)

module _ (xs : List ℕ) (t first last : ℕ) (b : BlockOf xs t first last) where
  pub has_block : first < last → has_a_block xs t ≡ true
  has_block h = some_at (λ w. eqb w t) 0 xs first (lt_of_lt_of_le h b.within) (eq-eqb (get_or xs first 0) t (b.inside first (le_refl first) h))

  pub no_block : last ≤ first → has_a_block xs t ≡ false
  no_block h = (no-term xs t).1 (λ k l e. go k l e (dec_le first k))
    where
      go : (k : ℕ) → k < length xs → get_or xs k 0 ≡ t → Dec (first ≤ k) → ⊥
      go k l e (yes p) = let u : t < get_or xs k 0 = b.after k (le_trans h p) l in omega arith
      go k l e (no p) = let u : get_or xs k 0 < t = b.before k (lt_of_not-le p) in omega arith

-- ---- the turned parts, looked up: the second stands one place before the first, in a ring
abbrev pub ring : {A : Type 0} → (A → A) → A → A → List A
ring minus a b = a ∷ minus b ∷ minus a ∷ b ∷ []

pub looked-up : {A : Type 0} (minus : A → A) (a b none : A) (k : ℕ) → k < 4 → (get_or (ring minus a b) k none, get_or (ring minus a b) ((k + 3) % 4) none) ≡ turned minus k a b
looked-up minus a b none zero h = refl
looked-up minus a b none (suc zero) h = refl
looked-up minus a b none (suc (suc zero)) h = refl
looked-up minus a b none (suc (suc (suc zero))) h = refl
looked-up minus a b none (suc (suc (suc (suc k)))) h = absurd (omega arith)
