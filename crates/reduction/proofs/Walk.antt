-- Reduced form as a walk along the order, and that the rule's rows are in it: a column passed over stays 0 in the rows left, since only these are sources from
-- there on (`keep`), and a pivot's column is cleared in all others (`pivot-zero`). Assumes nothing.
use Prim.Native.Nat.{ℕ, suc, ◌+◌}
use native.Mathlib.Omega.{arith}
use mathlib.Core.Path.{◌≡◌, refl, sym, ap, ◌∙◌, subst}
use mathlib.Core.Logic.{inl, inr, ⊎_elim}
use mathlib.Core.Bool.{Bool, true, false, cond, not, ◌&&◌, xor, false≢true}
use mathlib.Core.Option.{some}
use mathlib.Core.List.{List, [], ◌∷◌, ◌++◌}
use lib.Dec.{eqb}
use lib.ListN.{get_or, drop}
use borrow.Author.Tests.{eqb-true, eqb-false, not-true, not-false}
use Rattle.pauli.proofs.Bools.{cond_ind, and_left, and_right, and-false-or, xor_ff}
use Rattle.reduction.specs.Lists.{In, Distinct, All}
use Rattle.reduction.specs.Rule.{Entry, Run, mul_at, multiply, counted, first, clear, pivot, columns, reduce}
use Rattle.reduction.specs.Replay.{replay}
use Rattle.reduction.proofs.Lists.{all-mono, in_left, in-drop, distinct-drop}
use Rattle.reduction.proofs.Run.{mul_at-ind, Ext, Reach, first-none, first_some, first_head, col-ind, ext-columns, pivot-t, split-left, found_left}

-- reduced form, a column after another: a column is 0 in all the rows left, or is the pivot column of the first of them
pub data Walk {R : Type 0} (bit : R → ℕ → Bool) (σ : ℕ → R) (all : List ℕ) : List ℕ → List ℕ → Type 0 where
  end : {rest : List ℕ} → Walk bit σ all rest []
  skip : {rest : List ℕ} {c : ℕ} {cs : List ℕ} → ((k : ℕ) → In k rest → bit (σ k) c ≡ false) → Walk bit σ all rest cs → Walk bit σ all rest (c ∷ cs)
  pivot_at : {p : ℕ} {rest : List ℕ} {c : ℕ} {cs : List ℕ} → bit (σ p) c ≡ true → ((k : ℕ) → In k all → (k ≡ p → ⊥) → bit (σ k) c ≡ false)
      → Walk bit σ all rest cs → Walk bit σ all (p ∷ rest) (c ∷ cs)

-- the number of pivots that a walk passes
unfoldable pub pivots : {R : Type 0} {bit : R → ℕ → Bool} {σ : ℕ → R} {all rest order : List ℕ} → Walk bit σ all rest order → ℕ
pivots end = 0
pivots (skip z w) = pivots w
pivots (pivot_at o y w) = suc (pivots w)

module _ {R : Type 0} (bit : R → ℕ → Bool) (mul : R → R → R) (bit-mul : (a b : R) (c : ℕ) → bit (mul a b) c ≡ xor (bit a c) (bit b c)) where
  -- a column that is 0 in every source is kept
  pub keep : (rest : List ℕ) (c : ℕ) (es : List Entry) (σ : ℕ → R) → All (λ (e : Entry). In e.source rest) es
      → ((k : ℕ) → In k rest → bit (σ k) c ≡ false) → (k : ℕ) → bit (replay mul σ es k) c ≡ bit (σ k) c
  unfolding replay
  keep rest c [] σ h z k = refl
  keep rest c (e ∷ es) σ h z k =
      let a = e.target in
      let b = e.source in
      let same : (j : ℕ) → bit (mul_at mul σ a b j) c ≡ bit (σ j) c
      = λ j. mul_at-ind mul (λ r. bit r c ≡ bit (σ j) c) σ a b j
      (λ q. bit-mul (σ a) (σ b) c ∙ ap (λ x. xor (bit (σ a) c) x) (z b h.0) ∙ xor_ff _ ∙ ap (λ i. bit (σ i) c) (sym q))
      (λ n. refl) in
      keep rest c es (mul_at mul σ a b) h.1 (λ j m. same j ∙ z j m) k ∙ same k

  -- what clearing column c by the pivot p does at c
  module _ (c p : ℕ) where
    unfoldable pub one-step : ℕ → Run R → Run R
    one-step k s = cond (not (eqb k p) && bit (s.rows k) c) (multiply mul k p s) s

    pub one-pivot : (k : ℕ) (s : Run R) → (one-step k s).rows p ≡ s.rows p
    unfolding one-step multiply
    one-pivot k s =
        cond_ind (λ (s' : Run R). s'.rows p ≡ s.rows p) (not (eqb k p) && bit (s.rows k) c)
        (λ e. mul_at-ind mul (λ r. r ≡ s.rows p) s.rows k p p
        (λ q. absurd (eqb-false k p (not-true (eqb k p) (and_left _ _ e)) (sym q)))
        (λ n. refl))
        (λ e. refl)

    pub one-here : (k : ℕ) (s : Run R) → bit (s.rows p) c ≡ true → (k ≡ p → ⊥) → bit ((one-step k s).rows k) c ≡ false
    unfolding one-step multiply xor
    one-here k s hp n =
        cond_ind (λ (s' : Run R). bit (s'.rows k) c ≡ false) (not (eqb k p) && bit (s.rows k) c)
        (λ e. mul_at-ind mul (λ r. bit r c ≡ false) s.rows k p k
        (λ q. bit-mul (s.rows k) (s.rows p) c ∙ ap (λ x. xor (bit (s.rows k) c) x) hp ∙ ap (λ x. xor x true) (and_right (not (eqb k p)) _ e))
        (λ m. absurd (m refl)))
        (λ e. ⊎_elim (λ q. absurd (n (eqb-true k p (not-false (eqb k p) q)))) (λ q. q) (and-false-or (not (eqb k p)) _ e))

    pub one-zero : (k j : ℕ) (s : Run R) → bit (s.rows p) c ≡ true → (j ≡ p → ⊥) → bit (s.rows j) c ≡ false → bit ((one-step k s).rows j) c ≡ false
    unfolding one-step multiply
    one-zero k j s hp n z =
        cond_ind (λ (s' : Run R). bit (s'.rows j) c ≡ false) (not (eqb k p) && bit (s.rows k) c)
        (λ e. mul_at-ind mul (λ r. bit r c ≡ false) s.rows k p j
        (λ q. absurd (false≢true (sym z ∙ ap (λ i. bit (s.rows i) c) q ∙ and_right (not (eqb k p)) _ e)))
        (λ m. z))
        (λ e. z)

    clear-pivot : (ks : List ℕ) (s : Run R) → (clear bit mul c p ks s).rows p ≡ s.rows p
    unfolding clear one-step
    clear-pivot [] s = refl
    clear-pivot (k ∷ ks) s = clear-pivot ks (one-step k s) ∙ one-pivot k s

    clear_zero : (ks : List ℕ) (s : Run R) (j : ℕ) → bit (s.rows p) c ≡ true → (j ≡ p → ⊥) → bit (s.rows j) c ≡ false → bit ((clear bit mul c p ks s).rows j) c ≡ false
    unfolding clear one-step
    clear_zero [] s j hp n z = z
    clear_zero (k ∷ ks) s j hp n z =
        clear_zero ks (one-step k s) j (ap (λ r. bit r c) (one-pivot k s) ∙ hp) n (one-zero k j s hp n z)

    clear-done : (ks : List ℕ) (s : Run R) (j : ℕ) → bit (s.rows p) c ≡ true → (j ≡ p → ⊥) → In j ks → bit ((clear bit mul c p ks s).rows j) c ≡ false
    unfolding clear one-step
    clear-done [] s j hp n m = absurd m
    clear-done (k ∷ ks) s j hp n (inl q) =
        clear_zero ks (one-step k s) j (ap (λ r. bit r c) (one-pivot k s) ∙ hp) n
        (subst (λ i. bit ((one-step k s).rows i) c ≡ false) (sym q) (one-here k s hp (λ q'. n (q ∙ q'))))
    clear-done (k ∷ ks) s j hp n (inr m) = clear-done ks (one-step k s) j (ap (λ r. bit r c) (one-pivot k s) ∙ hp) n m

  pub found-one : (c p f : ℕ) (s : Run R) (rest : List ℕ) → first bit s.rows c (p ∷ rest) ≡ some f
      → bit ((cond (eqb f p) s (multiply mul p f s)).rows p) c ≡ true
  unfolding multiply xor
  found-one c p f s rest e =
      let hf = (first_some bit s.rows c (p ∷ rest) f e).1 in
      cond_ind (λ (s' : Run R). bit (s'.rows p) c ≡ true) (eqb f p)
      (λ q. ap (λ i. bit (s.rows i) c) (sym (eqb-true f p q)) ∙ hf)
      (λ q. mul_at-ind mul (λ r. bit r c ≡ true) s.rows p f p
      (λ _. bit-mul (s.rows p) (s.rows f) c ∙ ap (λ x. xor x (bit (s.rows f) c)) (first_head bit s.rows c p rest f e (eqb-false f p q)) ∙ ap (λ x. xor false x) hf)
      (λ n. absurd (n refl)))

  pub pivot-one : (all : List ℕ) (c p f : ℕ) (s : Run R) (rest : List ℕ) → first bit s.rows c (p ∷ rest) ≡ some f
      → bit ((pivot bit mul all c p f s).rows p) c ≡ true
  unfolding pivot counted
  pivot-one all c p f s rest e =
      ap (λ r. bit r c) (clear-pivot c p all (cond (eqb f p) s (multiply mul p f s))) ∙ found-one c p f s rest e

  pub pivot-zero : (all : List ℕ) (c p f : ℕ) (s : Run R) (rest : List ℕ) → first bit s.rows c (p ∷ rest) ≡ some f
      → (k : ℕ) → In k all → (k ≡ p → ⊥) → bit ((pivot bit mul all c p f s).rows k) c ≡ false
  unfolding pivot counted
  pivot-zero all c p f s rest e k m n = clear-done c p all (cond (eqb f p) s (multiply mul p f s)) k (found-one c p f s rest e) n m

  module _ (listed extra : List ℕ) (once : Distinct listed) where
    -- a column that is 0 in the rows left is kept by what the run does from there on
    pub ext-keep : (t c : ℕ) (s s' : Run R) → Ext mul (Reach listed extra t) s s' → ((k : ℕ) → In k (drop t listed) → bit (s.rows k) c ≡ false)
        → (k : ℕ) → bit (s'.rows k) c ≡ bit (s.rows k) c
    ext-keep t c s s' e z k =
        ap (λ σ. bit (σ k) c) e.rows_are ∙ keep (drop t listed) c e.more s.rows (all-mono (λ e' r. r.source_in) e.more e.each) z k

    -- after a pivot, its column is 0 in the rows left
    pub pivot-left : (c f : ℕ) (s : Run R) → first bit s.rows c (drop s.t listed) ≡ some f
        → (k : ℕ) → In k (drop (suc s.t) listed) → bit ((pivot bit mul (listed ++ extra) c (get_or listed s.t 0) f s).rows k) c ≡ false
    pivot-left c f s e k m =
        let t = s.t in
        let apart : Distinct (get_or listed t 0 ∷ drop (suc t) listed) = subst Distinct (split-left bit mul listed extra c t f s.rows e) (distinct-drop t listed once) in
        pivot-zero (listed ++ extra) c (get_or listed t 0) f s (drop (suc t) listed) (found_left bit mul listed extra c t f s.rows e)
        k (in_left k listed extra (in-drop k (suc t) listed m)) (λ q. apart.0 (subst (λ i. In i (drop (suc t) listed)) q m))

    walk-columns : (order : List ℕ) (s : Run R) → let s' = columns bit mul listed extra order s in
        ((w : Walk bit s'.rows (listed ++ extra) (drop s.t listed) order) × (pivots w + s.t ≡ s'.t))
    unfolding columns pivots
    walk-columns [] s = (end, omega arith)
    walk-columns (c ∷ cs) s =
        col-ind bit mul listed extra
        (λ s'. let s'' = columns bit mul listed extra cs s' in ((w : Walk bit s''.rows (listed ++ extra) (drop s.t listed) (c ∷ cs)) × (pivots w + s.t ≡ s''.t))) c s
        (λ e.
        let z = first-none bit s.rows c (drop s.t listed) e in
        let r = walk-columns cs s in
        (skip (λ k m. ext-keep s.t c s _ (ext-columns bit mul listed extra cs s) z k ∙ z k m) r.0, r.1))
        (λ f e.
        let t = s.t in
        let p = get_or listed t 0 in
        let all = listed ++ extra in
        let s' = pivot bit mul all c p f s in
        let s'' = columns bit mul listed extra cs s' in
        let e' = found_left bit mul listed extra c t f s.rows e in
        let up = pivot-t bit mul all c p f s in
        let later : Ext mul (Reach listed extra (suc t)) s' s'' = subst (λ n. Ext mul (Reach listed extra n) s' s'') up (ext-columns bit mul listed extra cs s') in
        let kept : (k : ℕ) → bit (s''.rows k) c ≡ bit (s'.rows k) c = ext-keep (suc t) c s' s'' later (pivot-left c f s e) in
        let r : (w : Walk bit s''.rows all (drop (suc t) listed) cs) × (pivots w + suc t ≡ s''.t)
        = subst (λ n. (w : Walk bit s''.rows all (drop n listed) cs) × (pivots w + n ≡ s''.t)) up (walk-columns cs s') in
        subst (λ l. (w : Walk bit s''.rows all l (c ∷ cs)) × (pivots w + t ≡ s''.t)) (sym (split-left bit mul listed extra c t f s.rows e)) (
          pivot_at (kept p ∙ pivot-one all c p f s (drop (suc t) listed) e') (λ k m n. kept k ∙ pivot-zero all c p f s (drop (suc t) listed) e' k m n) r.0,
          omega (arith, r.1),
        ))

    -- the rule's rows can be walked, past t pivots
    pub run-walk : (order : List ℕ) (σ : ℕ → R) → let s = reduce bit mul order listed extra σ in
        ((w : Walk bit s.rows (listed ++ extra) listed order) × (pivots w ≡ s.t))
    unfolding reduce
    run-walk order σ = let r = walk-columns order (record { rows = σ; log = []; t = 0 }) in (r.0, omega (arith, r.1))
