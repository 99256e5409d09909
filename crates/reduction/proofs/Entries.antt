-- The checker's entry test is the wording of RULES 7.3; the first bad entry is the first, being found after entries that are all good (`BadAt`); a number of
-- m or more is a bad entry, since it stands in no list. Assumes nothing.
use Prim.Native.Nat.{ℕ, suc, ◌+◌, ◌≤◌}
use native.Mathlib.Omega.{arith}
use mathlib.Core.Path.{◌≡◌, refl, sym, ap, ◌∙◌}
use mathlib.Core.Logic.{◌⊎◌, ⊎_elim, ◌↔◌}
use mathlib.Core.Bool.{true, false, cond, not, ◌&&◌, false≢true}
use mathlib.Core.Option.{none, some}
use mathlib.Core.List.{List, [], ◌∷◌, ◌++◌}
use lib.Dec.{eqb}
use lib.ListN.{length}
use borrow.Author.Tests.{eqb-false, ne_eqb, not-true}
use Rattle.pauli.proofs.Bools.{cond_ind, and_left, and_right, and_both, not_so}
use Rattle.reduction.specs.Lists.{has, All}
use Rattle.reduction.specs.Rule.{Entry}
use Rattle.reduction.specs.Checker.{good, first_bad}
use Rattle.reduction.specs.Demand.{Asked, Good}
use Rattle.reduction.proofs.Lists.{has→in, in→has, in_left, none≢some}

module _ (listed extra : List ℕ) where
  pub good→ : (e : Entry) → good listed extra e ≡ true → Good listed extra e
  unfolding good
  good→ e h =
      let l = and_left (not (eqb e.target e.source) && has e.target (listed ++ extra)) _ h in
      record {
        target-in = has→in _ _ (and_right (not (eqb e.target e.source)) _ l);
        source_in = has→in _ _ (and_right (not (eqb e.target e.source) && has e.target (listed ++ extra)) _ h);
        other = eqb-false _ _ (not-true _ (and_left (not (eqb e.target e.source)) _ l));
      }

  pub →good : (e : Entry) → Good listed extra e → good listed extra e ≡ true
  unfolding good
  →good e h = and_both (and_both (ap not (ne_eqb _ _ h.other)) (in→has _ _ h.target-in)) (in→has _ _ h.source_in)

  -- The test passes exactly the entries that multiply a listed or extra row by a different, listed row.
  pub good-iff : (e : Entry) → (good listed extra e ≡ true) ↔ Good listed extra e
  good-iff e = (good→ e, →good e)

  pub bad-none : (i : ℕ) (es : List Entry) → first_bad listed extra i es ≡ none → All (Good listed extra) es
  unfolding first_bad
  bad-none i [] = λ _. tt
  bad-none i (e ∷ es) =
      cond_ind (λ o. o ≡ none → All (Good listed extra) (e ∷ es)) (good listed extra e)
      (λ g o. (good→ e g, bad-none (suc i) es o)) (λ g o. absurd (none≢some (sym o)))

  pub none-bad : (i : ℕ) (es : List Entry) → All (Good listed extra) es → first_bad listed extra i es ≡ none
  unfolding first_bad
  none-bad i [] h = refl
  none-bad i (e ∷ es) h = ap (λ b. cond b (first_bad listed extra (suc i) es) (some i)) (→good e h.0) ∙ none-bad (suc i) es h.1

  -- the log is entries that are all good, then a bad one, the j-th
  pub record BadAt (i j : ℕ) (es : List Entry) : Type 0 where
    pub before : List Entry
    pub bad : Entry
    pub behind : List Entry
    pub log_is : es ≡ before ++ bad ∷ behind
    pub number : j ≡ i + length before
    pub good-before : All (Good listed extra) before
    pub is-bad : Good listed extra bad → ⊥

  bad_more : {e : Entry} {i j : ℕ} {es : List Entry} → Good listed extra e → BadAt (suc i) j es → BadAt i j (e ∷ es)
  bad_more {e} {i} {j} {es} g b =
      record {
        before = e ∷ b.before;
        bad = b.bad;
        behind = b.behind;
        log_is = ap (λ l. e ∷ l) b.log_is;
        number = omega (arith, b.number);
        good-before = (g, b.good-before);
        is-bad = b.is-bad;
      }

  -- "the first bad entry by its number"
  pub first-bad : (i j : ℕ) (es : List Entry) → first_bad listed extra i es ≡ some j → BadAt i j es
  unfolding first_bad
  first-bad i j [] = λ o. absurd (none≢some o)
  first-bad i j (e ∷ es) =
      cond_ind (λ o. o ≡ some j → BadAt i j (e ∷ es)) (good listed extra e)
      (λ g o. bad_more (good→ e g) (first-bad (suc i) j es o))
      (λ g o. record {
        before = [];
        bad = e;
        behind = es;
        log_is = refl;
        number = let q : i ≡ j = cc in omega arith;
        good-before = tt;
        is-bad = λ h. false≢true (sym g ∙ →good e h);
      })

  -- "numbers of m or more are bad entries": they stand in neither list
  pub too-large-bad : (N m : ℕ) (order : List ℕ) → Asked N m order listed extra → (e : Entry) → (m ≤ e.target) ⊎ (m ≤ e.source) → good listed extra e ≡ false
  too-large-bad N m order A e h =
      not_so (good listed extra e)
      (λ g. let G = good→ e g in
      ⊎_elim (λ l. omega (arith, A.rows_in e.target G.target-in)) (λ l. omega (arith, A.rows_in e.source (in_left e.source listed extra G.source_in))) h)
