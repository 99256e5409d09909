-- A lent log, entry after entry: the first bad entry, and the entries done in memory. What is left to look at, from entry i on, says the same as the whole, and i
-- entries done and one more are i + 1 (`redo-more`). Assumes nothing.
use mathlib.Core.Path.{◌≡◌, refl, sym, ap, ◌∙◌}
use mathlib.Core.Bool.{Bool, true, false, cond}
use mathlib.Core.Option.{none, some}
use mathlib.Core.List.{List, [], ◌∷◌, ◌++◌}
use Prim.Native.Nat.{ℕ, ◌+◌, ◌/◌, ◌≤◌, ◌<◌}
use native.Mathlib.Numerals.{add-one}
use lib.ListN.{length, get_or, take, drop}
use Rattle.encoding.specs.Set.{Mem}
use Rattle.reduction.specs.Rule.{Entry, entry}
use Rattle.reduction.specs.Log.{pairs}
use Rattle.reduction.proofs.Log.{pairs-at, pairs_end, take_more}
use Rattle.terms.specs.Workers.{mul_in}
use Rattle.replay.specs.Workers.{first_bad_by, redone}

-- ---- the first bad entry: what is left to look at, from here, says the same as the whole

module _ (f : Entry → Bool) (l : List ℕ) (i : ℕ) where
  bad-at : i < length l / 2 → first_bad_by f i (drop i (pairs l)) ≡ cond (f (entry (get_or l (i + i) 0) (get_or l (i + i + 1) 0))) (first_bad_by f (i + 1) (drop (i + 1) (pairs l))) (some i)
  unfolding first_bad_by
  bad-at h =
      ap (first_bad_by f i) (pairs-at l i h)
      ∙ ap (λ m. cond (f (entry (get_or l (i + i) 0) (get_or l (i + i + 1) 0))) (first_bad_by f m (drop (i + 1) (pairs l))) (some i)) (sym (add-one i))

  pub bad-next : i < length l / 2 → true ≡ f (entry (get_or l (i + i) 0) (get_or l (i + i + 1) 0)) → first_bad_by f (i + 1) (drop (i + 1) (pairs l)) ≡ first_bad_by f i (drop i (pairs l))
  bad-next h e = sym (bad-at h ∙ ap (λ b. cond b (first_bad_by f (i + 1) (drop (i + 1) (pairs l))) (some i)) (sym e))

  pub bad-here : i < length l / 2 → false ≡ f (entry (get_or l (i + i) 0) (get_or l (i + i + 1) 0)) → some i ≡ first_bad_by f i (drop i (pairs l))
  bad-here h e =
      sym (bad-at h ∙ ap (λ b. cond b (first_bad_by f (i + 1) (drop (i + 1) (pairs l))) (some i)) (sym e))

  pub bad-end : length l / 2 ≤ i → none ≡ first_bad_by f i (drop i (pairs l))
  unfolding first_bad_by
  bad-end h = sym (ap (first_bad_by f i) (pairs_end i l h))

-- ---- the entries done in memory: the first i of them

redone-more : (n : ℕ) (es : List Entry) (e : Entry) (M : Mem) → redone n (es ++ (e ∷ [])) M ≡ mul_in n e.target e.source (redone n es M)
unfolding redone
redone-more n [] e M = refl
redone-more n (d ∷ es) e M = redone-more n es e (mul_in n d.target d.source M)

module _ (n : ℕ) (l : List ℕ) (i : ℕ) (M₀ : Mem) where
  pub redo-more : {M M' : Mem} → i < length l / 2 → M ≡ redone n (take i (pairs l)) M₀ → M' ≡ mul_in n (get_or l (i + i) 0) (get_or l (i + i + 1) 0) M → M' ≡ redone n (take (i + 1) (pairs l)) M₀
  redo-more h e f =
      f ∙ ap (mul_in n (get_or l (i + i) 0) (get_or l (i + i + 1) 0)) e
      ∙ sym (ap (λ es. redone n es M₀) (take_more l i h) ∙ redone-more n (take i (pairs l)) (entry (get_or l (i + i) 0) (get_or l (i + i + 1) 0)) M₀)
