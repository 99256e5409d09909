-- The rule's log has at most t × d entries, and t is at most the number of listed rows, of different ordered columns, and of columns.
-- Assumes nothing.
use Prim.Native.Nat.{ℕ, suc, ◌+◌, ◌*◌, ◌<◌, ◌≤◌}
use native.Mathlib.Omega.{arith}
use mathlib.Core.Path.{◌≡◌, refl, sym, ap, ◌∙◌, subst}
use mathlib.Core.Logic.{inl, inr, ⊎_elim}
use mathlib.Core.Bool.{Bool, true, false, cond, not, ◌&&◌, xor, false≢true}
use mathlib.Core.Option.{some}
use mathlib.Core.List.{List, [], ◌∷◌, ◌++◌}
use lib.Dec.{eqb}
use lib.ListN.{length, get_or, drop, length-append}
use borrow.Author.Tests.{eqb-false, not-true}
use Rattle.pauli.proofs.Bools.{cond_ind, and_left, and_right}
use Rattle.reduction.specs.Lists.{In, Distinct, different, All}
use Rattle.reduction.specs.Rule.{entry, Run, multiply, counted, first, clear, pivot, columns, reduce}
use Rattle.reduction.proofs.Lists.{all-mono, all-get, in-drop-suc, drop-short, most-different, most-below}
use Rattle.reduction.proofs.Run.{mul_at-ind, first_some, col-ind, pivot-t, head_in, found_left, ext-found}
use Rattle.reduction.proofs.Walk.{found-one, pivot-left, ext-keep}

module _ {R : Type 0} (bit : R → ℕ → Bool) (mul : R → R → R) (bit-mul : (a b : R) (c : ℕ) → bit (mul a b) c ≡ xor (bit a c) (bit b c)) where
  step-length : (a b : ℕ) (s : Run R) → length (multiply mul a b s).log ≡ suc (length s.log)
  unfolding multiply
  step-length a b s = omega (arith, length-append s.log (entry a b ∷ []))

  step_other : (a b : ℕ) (s : Run R) (j : ℕ) → (j ≡ a → ⊥) → (multiply mul a b s).rows j ≡ s.rows j
  unfolding multiply
  step_other a b s j n = mul_at-ind mul (λ r. r ≡ s.rows j) s.rows a b j (λ q. absurd (n q)) (λ _. refl)

  step-here : (a b c : ℕ) (s : Run R) → bit (s.rows a) c ≡ true → bit (s.rows b) c ≡ true → bit ((multiply mul a b s).rows a) c ≡ false
  unfolding multiply xor
  step-here a b c s ha hb =
      mul_at-ind mul (λ r. bit r c ≡ false) s.rows a b a
      (λ _. bit-mul (s.rows a) (s.rows b) c ∙ ap (λ x. xor x (bit (s.rows b) c)) ha ∙ ap (λ x. xor true x) hb) (λ n. absurd (n refl))

  -- the rows that a clearing multiplies: each once, other than the pivot, with the bit set
  abbrev Cleared : ℕ → ℕ → List ℕ → Run R → Run R → Type 0
  Cleared c p ks s s' =
      (tl : List ℕ) × (length s'.log ≡ length s.log + length tl) × Distinct tl × All (λ j. In j ks × (j ≡ p → ⊥) × (bit (s.rows j) c ≡ true)) tl

  cleared : (c p : ℕ) (ks : List ℕ) (s : Run R) → bit (s.rows p) c ≡ true → Cleared c p ks s (clear bit mul c p ks s)
  unfolding clear
  cleared c p [] s hp = ([], omega arith, tt, tt)
  cleared c p (k ∷ ks) s hp =
      cond_ind (λ s'. Cleared c p (k ∷ ks) s (clear bit mul c p ks s')) (not (eqb k p) && bit (s.rows k) c)
      (λ e.
      let s1 = multiply mul k p s in
      let n : k ≡ p → ⊥ = eqb-false k p (not-true _ (and_left (not (eqb k p)) _ e)) in
      let on : bit (s.rows k) c ≡ true = and_right (not (eqb k p)) _ e in
      let here : bit (s1.rows k) c ≡ false = step-here k p c s on hp in
      let other : (j : ℕ) → (j ≡ k → ⊥) → s1.rows j ≡ s.rows j = step_other k p s in
      let r = cleared c p ks s1 (ap (λ x. bit x c) (other p (λ q. n (sym q))) ∙ hp) in
      let apart : (j : ℕ) → bit (s1.rows j) c ≡ true → j ≡ k → ⊥ = λ j h q. false≢true (sym here ∙ ap (λ i. bit (s1.rows i) c) (sym q) ∙ h) in (
        k ∷ r.0,
        omega (arith, r.1, step-length k p s),
        (λ m. apart k (all-get k r.0 (λ j. bit (s1.rows j) c ≡ true) (all-mono (λ j h. h.2) r.0 r.3) m) refl, r.2),
        ((inl refl, n, on), all-mono (λ j h. (inr h.0, h.1, ap (λ x. bit x c) (sym (other j (apart j h.2))) ∙ h.2)) r.0 r.3),
      ))
      (λ e. let r = cleared c p ks s hp in (r.0, r.1, r.2, all-mono (λ j h. (inr h.0, h.1, h.2)) r.0 r.3))

  pivot-length : (all : List ℕ) (c p f : ℕ) (s : Run R) (rest : List ℕ) → In p all → first bit s.rows c (p ∷ rest) ≡ some f
      → length (pivot bit mul all c p f s).log ≤ length s.log + different all
  unfolding pivot counted
  pivot-length all c p f s rest hp e =
      let s1 : Run R = cond (eqb f p) s (multiply mul p f s) in
      let r = cleared c p all s1 (found-one bit mul bit-mul c p f s rest e) in
      let l : length s1.log ≤ suc (length s.log)
      = cond_ind (λ (s' : Run R). length s'.log ≤ suc (length s.log)) (eqb f p) {x = s} {y = multiply mul p f s} (λ _. omega arith) (λ _. omega (arith, step-length p f s)) in
      let k : suc (length r.0) ≤ different all
      = most-different all (p ∷ r.0)
      (λ m. all-get p r.0 (λ j. j ≡ p → ⊥) (all-mono (λ j h. h.1) r.0 r.3) m refl, r.2)
      (λ j. ⊎_elim (λ q. subst (λ i. In i all) (sym q) hp) (λ m. all-get j r.0 (λ i. In i all) (all-mono (λ i h. h.0) r.0 r.3) m)) in
      omega (arith, r.1, l, k)

  module _ (listed extra : List ℕ) where
    -- at most d entries for each pivot
    columns-length : (order : List ℕ) (s : Run R) → let s' = columns bit mul listed extra order s in let d = different (listed ++ extra) in
        (length s'.log + s.t * d ≤ length s.log + s'.t * d)
    unfolding columns
    columns-length [] s = omega arith
    columns-length (c ∷ cs) s =
        let d = different (listed ++ extra) in
        col-ind bit mul listed extra (λ s'. length (columns bit mul listed extra cs s').log + s.t * d ≤ length s.log + (columns bit mul listed extra cs s').t * d) c s
        (λ _. columns-length cs s)
        (λ f e.
        let t = s.t in
        let p = get_or listed t 0 in
        let all = listed ++ extra in
        let s' = pivot bit mul all c p f s in
        let l = pivot-length all c p f s (drop (suc t) listed) (head_in bit mul listed extra c t f s.rows e) (found_left bit mul listed extra c t f s.rows e) in
        let ih = subst (λ n. length (columns bit mul listed extra cs s').log + n * d ≤ length s'.log + (columns bit mul listed extra cs s').t * d) (pivot-t bit mul all c p f s) (columns-length cs s') in
        omega (arith, l, ih))

    columns-t : (order : List ℕ) (s : Run R) → s.t ≤ length listed → (columns bit mul listed extra order s).t ≤ length listed
    unfolding columns
    columns-t [] s h = h
    columns-t (c ∷ cs) s h =
        col-ind bit mul listed extra (λ s'. (columns bit mul listed extra cs s').t ≤ length listed) c s
        (λ _. columns-t cs s h)
        (λ f e. columns-t cs (pivot bit mul (listed ++ extra) c (get_or listed s.t 0) f s)
        (omega (arith, pivot-t bit mul (listed ++ extra) c (get_or listed s.t 0) f s, drop-short f s.t listed (first_some bit s.rows c (drop s.t listed) f e).0)))

    -- "The count is at most t × d, where d is the number of different rows in the two lists taken together"
    pub run_length : (order : List ℕ) (σ : ℕ → R) → let s = reduce bit mul order listed extra σ in (length s.log ≤ s.t * different (listed ++ extra))
    unfolding reduce
    run_length order σ = omega (arith, columns-length order (record { rows = σ; log = []; t = 0 }))

    -- "t is at most .. the number of listed rows"
    pub run-t-listed : (order : List ℕ) (σ : ℕ → R) → (reduce bit mul order listed extra σ).t ≤ length listed
    unfolding reduce
    run-t-listed order σ = columns-t order (record { rows = σ; log = []; t = 0 }) (omega arith)

    -- the pivot columns of a run: t of them, each once, columns of the order, and 0 in the rows left
    record Pivots (order : List ℕ) (s : Run R) (cs : List ℕ) : Type 0 where
      each-once : Distinct cs
      ordered : (c : ℕ) → In c cs → In c order
      as_many : length cs ≡ s.t
      cleared : (c : ℕ) → In c cs → (k : ℕ) → In k (drop s.t listed) → bit (s.rows k) c ≡ false

    module _ (once : Distinct listed) where
      -- a pivot adds its column
      pivots-more : (order : List ℕ) (s : Run R) (cs : List ℕ) (c f : ℕ) → In c order → first bit s.rows c (drop s.t listed) ≡ some f
          → Pivots order s cs → Pivots order (pivot bit mul (listed ++ extra) c (get_or listed s.t 0) f s) (c ∷ cs)
      pivots-more order s cs c f hc e P =
          let t = s.t in
          let s' = pivot bit mul (listed ++ extra) c (get_or listed t 0) f s in
          let found = first_some bit s.rows c (drop t listed) f e in
          let up = pivot-t bit mul (listed ++ extra) c (get_or listed t 0) f s in
          record {
            each-once = (λ m. false≢true (sym (P.cleared c m f found.0) ∙ found.1), P.each-once);
            ordered = λ x. ⊎_elim (λ q. subst (λ i. In i order) (sym q) hc) (P.ordered x);
            as_many = omega (arith, P.as_many, up);
            cleared = λ x m k n.
                let n' : In k (drop (suc t) listed) = subst (λ i. In k (drop i listed)) up n in
                ⊎_elim
                (λ q. ap (λ i. bit (s'.rows k) i) q ∙ pivot-left bit mul bit-mul listed extra once c f s e k n')
                (λ m'. ext-keep bit mul bit-mul listed extra once t x s s' (ext-found bit mul listed extra c f s e) (P.cleared x m') k ∙ P.cleared x m' k (in-drop-suc k t listed n'))
                m;
          }

      columns-pivots : (order cs : List ℕ) → ((c : ℕ) → In c cs → In c order) → (s : Run R) (past : List ℕ) → Pivots order s past
          → (all : List ℕ) × Pivots order (columns bit mul listed extra cs s) all
      unfolding columns
      columns-pivots order [] sub s past P = (past, P)
      columns-pivots order (c ∷ cs) sub s past P =
          col-ind bit mul listed extra (λ s'. (all : List ℕ) × Pivots order (columns bit mul listed extra cs s') all) c s
          (λ _. columns-pivots order cs (λ x m. sub x (inr m)) s past P)
          (λ f e. columns-pivots order cs (λ x m. sub x (inr m)) (pivot bit mul (listed ++ extra) c (get_or listed s.t 0) f s) (c ∷ past) (pivots-more order s past c f (sub c (inl refl)) e P))

      run-pivots : (order : List ℕ) (σ : ℕ → R) → (cs : List ℕ) × Pivots order (reduce bit mul order listed extra σ) cs
      unfolding reduce
      run-pivots order σ =
          columns-pivots order order (λ _ m. m) (record { rows = σ; log = []; t = 0 }) [] (record { each-once = tt; ordered = λ _ m. absurd m; as_many = refl; cleared = λ _ m. absurd m })

      -- t is at most the number of different columns of the order,
      pub run-t-order : (order : List ℕ) (σ : ℕ → R) → (reduce bit mul order listed extra σ).t ≤ different order
      run-t-order order σ =
          let r = run-pivots order σ in
          omega (arith, r.1.as_many, most-different order r.0 r.1.each-once r.1.ordered)

      -- and so "at most .. 2n", where each column of the order is below N = 2n
      pub run-t-columns : (N : ℕ) (order : List ℕ) → ((c : ℕ) → In c order → c < N) → (σ : ℕ → R) → (reduce bit mul order listed extra σ).t ≤ N
      run-t-columns N order h σ =
          let r = run-pivots order σ in
          omega (arith, r.1.as_many, most-below N r.0 r.1.each-once (λ c m. h c (r.1.ordered c m)))
