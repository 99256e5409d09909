-- The checker's verdict: what each verdict says, and that a yes is exactly RULES 12.3. Its three looks are taken one after the other, and reduced form is
-- read off the bits (`walk-agree`), so that the replay has it exactly if the claim does. Assumes nothing.
use Prim.Native.Nat.{ℕ, zero, suc, ◌+◌, ◌<◌, ◌≤◌}
use native.Mathlib.Omega.{arith}
use mathlib.Core.Path.{◌≡◌, refl, sym, ap, ◌∙◌}
use mathlib.Core.Logic.{inl, inr, ⊎_elim, ◌↔◌}
use mathlib.Core.Bool.{Bool, true, false, cond, false≢true}
use mathlib.Core.Option.{Option, none, some}
use mathlib.Core.List.{List, ◌++◌}
use Rattle.pauli.proofs.Bools.{cond_ind}
use Rattle.reduction.specs.Lists.{In, All}
use Rattle.reduction.specs.Rule.{Entry}
use Rattle.reduction.specs.Replay.{replay}
use Rattle.reduction.specs.Form.{ReducedForm}
use Rattle.reduction.specs.Checker.{first_diff, bad_entry, differs, not_reduced, accepted, verdict_by, verdict, working, working_by}
use Rattle.reduction.specs.Demand.{Asked, Good, Agree, Right, NamesAll, NoPhase}
use Rattle.reduction.specs.Laws.{Laws}
use Rattle.reduction.proofs.Lists.{all-mono, in_left, same?, none≢some}
use Rattle.reduction.proofs.Walk.{Walk, end, skip, pivot_at}
use Rattle.reduction.proofs.Forms.{walk-iff-form, test-iff-walk}
use Rattle.reduction.proofs.Entries.{BadAt, bad-none, none-bad, first-bad}
use Rattle.reduction.proofs.Span.{unique-bits}
use Rattle.reduction.proofs.Phase.{replays-phase}

-- ---- the first row that differs

module _ {R : Type 0} (alike : R → R → Bool) (σ τ : ℕ → R) where
  diff-none : (m i : ℕ) → first_diff alike σ τ i m ≡ none → (k : ℕ) → i ≤ k → k < i + m → alike (σ k) (τ k) ≡ true
  unfolding first_diff
  diff-none zero i = λ _ k h h'. absurd (omega arith)
  diff-none (suc m) i =
      cond_ind (λ o. o ≡ none → (k : ℕ) → i ≤ k → k < i + suc m → alike (σ k) (τ k) ≡ true) (alike (σ i) (τ i))
      (λ e o k h h'. ⊎_elim (λ q. ap (λ j. alike (σ j) (τ j)) q ∙ e) (λ n. diff-none m (suc i) o k (omega arith) (omega arith)) (same? k i))
      (λ e o. absurd (none≢some (sym o)))

  none-diff : (m i : ℕ) → ((k : ℕ) → i ≤ k → k < i + m → alike (σ k) (τ k) ≡ true) → first_diff alike σ τ i m ≡ none
  unfolding first_diff
  none-diff zero i h = refl
  none-diff (suc m) i h =
      ap (λ b. cond b (first_diff alike σ τ (suc i) m) (some i)) (h i (omega arith) (omega arith)) ∙ none-diff m (suc i) (λ k l l'. h k (omega arith) (omega arith))

  -- "the first row differing": it differs, and no row before it does
  pub record DiffersAt (i j m : ℕ) : Type 0 where
    pub from : i ≤ j
    pub inside : j < i + m
    pub here : alike (σ j) (τ j) ≡ false
    pub before : (k : ℕ) → i ≤ k → k < j → alike (σ k) (τ k) ≡ true

  pub first-diff : (m i j : ℕ) → first_diff alike σ τ i m ≡ some j → DiffersAt i j m
  unfolding first_diff
  first-diff zero i j = λ o. absurd (none≢some o)
  first-diff (suc m) i j =
      cond_ind (λ o. o ≡ some j → DiffersAt i j (suc m)) (alike (σ i) (τ i))
      (λ e o.
      let D = first-diff m (suc i) j o in
      record {
        from = omega (arith, D.from);
        inside = omega (arith, D.inside);
        here = D.here;
        before = λ k h l. ⊎_elim (λ q. ap (λ x. alike (σ x) (τ x)) q ∙ e) (λ n. D.before k (omega arith) l) (same? k i);
      })
      (λ e o.
      let q : i ≡ j = cc in
      record { from = omega arith; inside = omega arith; here = ap (λ x. alike (σ x) (τ x)) (sym q) ∙ e; before = λ k h l. absurd (omega arith) })

-- ---- the verdict

verdict-yes : (a b : Option ℕ) (r : Bool) → verdict_by a b r ≡ accepted → (a ≡ none) × (b ≡ none) × (r ≡ true)
unfolding verdict_by
verdict-yes (some i) b r e = absurd (let z : ◌≡◌ {A = ℕ} 0 1 = cc in omega arith)
verdict-yes none (some k) r e = absurd (let z : ◌≡◌ {A = ℕ} 0 1 = cc in omega arith)
verdict-yes none none false e = absurd (let z : ◌≡◌ {A = ℕ} 0 1 = cc in omega arith)
verdict-yes none none true e = (refl, refl, refl)

yes-verdict : {a b : Option ℕ} {r : Bool} → a ≡ none → b ≡ none → r ≡ true → verdict_by a b r ≡ accepted
unfolding verdict_by
yes-verdict {a} {b} {r} p q e = ap (λ x. verdict_by x b r) p ∙ ap (λ x. verdict_by none x r) q ∙ ap (λ x. verdict_by none none x) e

-- which of the three looks decides
by-bad : (a b : Option ℕ) (r : Bool) (i : ℕ) → verdict_by a b r ≡ bad_entry i → a ≡ some i
unfolding verdict_by
by-bad (some j) b r i e = cc
by-bad none (some k) r i e = absurd (let z : ◌≡◌ {A = ℕ} 0 1 = cc in omega arith)
by-bad none none false i e = absurd (let z : ◌≡◌ {A = ℕ} 0 1 = cc in omega arith)
by-bad none none true i e = absurd (let z : ◌≡◌ {A = ℕ} 0 1 = cc in omega arith)

by-diff : (a b : Option ℕ) (r : Bool) (k : ℕ) → verdict_by a b r ≡ differs k → (a ≡ none) × (b ≡ some k)
unfolding verdict_by
by-diff (some j) b r k e = absurd (let z : ◌≡◌ {A = ℕ} 0 1 = cc in omega arith)
by-diff none (some j) r k e = (refl, (cc))
by-diff none none false k e = absurd (let z : ◌≡◌ {A = ℕ} 0 1 = cc in omega arith)
by-diff none none true k e = absurd (let z : ◌≡◌ {A = ℕ} 0 1 = cc in omega arith)

by_form : (a b : Option ℕ) (r : Bool) → verdict_by a b r ≡ not_reduced → (a ≡ none) × (b ≡ none) × (r ≡ false)
unfolding verdict_by
by_form (some j) b r e = absurd (let z : ◌≡◌ {A = ℕ} 0 1 = cc in omega arith)
by_form none (some j) r e = absurd (let z : ◌≡◌ {A = ℕ} 0 1 = cc in omega arith)
by_form none none false e = (refl, refl, refl)
by_form none none true e = absurd (let z : ◌≡◌ {A = ℕ} 0 1 = cc in omega arith)

-- reduced form is read off the bits of the rows and columns that it speaks of
walk-agree : {R : Type 0} (bit : R → ℕ → Bool) (σ τ : ℕ → R) (all : List ℕ) {rest order : List ℕ} → ((k : ℕ) → In k rest → In k all)
    → ((k c : ℕ) → In k all → In c order → bit (σ k) c ≡ bit (τ k) c) → Walk bit σ all rest order → Walk bit τ all rest order
walk-agree bit σ τ all sub h end = end
walk-agree bit σ τ all sub h (skip z r) = skip (λ k m. sym (h k _ (sub k m) (inl refl)) ∙ z k m) (walk-agree bit σ τ all sub (λ k c m n. h k c m (inr n)) r)
walk-agree bit σ τ all sub h (pivot_at {p} o y r) =
    pivot_at (sym (h p _ (sub p (inl refl)) (inl refl)) ∙ o) (λ k m n. sym (h k _ m (inl refl)) ∙ y k m n)
    (walk-agree bit σ τ all (λ k m. sub k (inr m)) (λ k c m n. h k c m (inr n)) r)

module _ {R : Type 0} {bit : R → ℕ → Bool} {mul : R → R → R} {ph : R → ℕ} {expo : R → R → ℕ} {N : ℕ} (laws : Laws bit mul ph expo N)
    {alike : R → R → Bool} (tells : (a b : R) → (alike a b ≡ true) ↔ Agree bit ph N a b) {m : ℕ} {order listed extra : List ℕ} (asked : Asked N m order listed extra) (σ : ℕ → R) where
  -- a claim that the replay gives is in reduced form exactly if the replay is
  claim→walk : (log : List Entry) (claimed : ℕ → R) → ((k : ℕ) → k < m → Agree bit ph N (replay mul σ log k) (claimed k))
      → ReducedForm bit order listed extra claimed → Walk bit (replay mul σ log) (listed ++ extra) listed order
  claim→walk log claimed agree form =
      walk-agree bit claimed (replay mul σ log) (listed ++ extra) (λ k n. in_left k listed extra n)
      (λ k c hk hc. sym ((agree k (asked.rows_in k hk)).bits c (asked.columns-in c hc)))
      ((walk-iff-form bit order listed extra asked.once claimed).1 form)

  walk→claim : (log : List Entry) (claimed : ℕ → R) → ((k : ℕ) → k < m → Agree bit ph N (replay mul σ log k) (claimed k))
      → Walk bit (replay mul σ log) (listed ++ extra) listed order → ReducedForm bit order listed extra claimed
  walk→claim log claimed agree walk =
      (walk-iff-form bit order listed extra asked.once claimed).0
      (walk-agree bit (replay mul σ log) claimed (listed ++ extra) (λ k n. in_left k listed extra n)
      (λ k c hk hc. (agree k (asked.rows_in k hk)).bits c (asked.columns-in c hc)) walk)

  pub yes→right : (log : List Entry) (claimed : ℕ → R) → verdict bit mul alike m order listed extra σ log claimed ≡ accepted → Right bit mul ph N m order listed extra σ log claimed
  unfolding verdict
  yes→right log claimed h =
      let τ = replay mul σ log in
      let y = verdict-yes _ _ _ h in
      let agree : (k : ℕ) → k < m → Agree bit ph N (τ k) (claimed k) = λ k hk. (tells _ _).0 (diff-none alike τ claimed m 0 y.1 k (omega arith) (omega arith)) in
      record {
        entries = bad-none listed extra 0 log y.0;
        replayed = agree;
        form = walk→claim log claimed agree ((test-iff-walk bit order listed extra asked.once τ).0 y.2);
      }

  pub right→yes : (log : List Entry) (claimed : ℕ → R) → Right bit mul ph N m order listed extra σ log claimed → verdict bit mul alike m order listed extra σ log claimed ≡ accepted
  unfolding verdict
  right→yes log claimed h =
      let τ = replay mul σ log in
      yes-verdict (none-bad listed extra 0 log h.entries)
      (none-diff alike τ claimed m 0 (λ k _ hk. (tells _ _).1 (h.replayed k (omega arith))))
      ((test-iff-walk bit order listed extra asked.once τ).1 (claim→walk log claimed h.replayed h.form))

  module _ (log : List Entry) (claimed : ℕ → R) where
    -- a bad entry is the first one that is bad
    pub bad-first : (i : ℕ) → verdict bit mul alike m order listed extra σ log claimed ≡ bad_entry i → BadAt listed extra 0 i log
    unfolding verdict
    bad-first i e = first-bad listed extra 0 i log (by-bad _ _ _ i e)

    pub bad-keeps : (i : ℕ) → verdict bit mul alike m order listed extra σ log claimed ≡ bad_entry i → working mul listed extra σ log ≡ σ
    unfolding verdict working working_by replay
    bad-keeps i e = ap (λ o. working_by mul o σ log) (by-bad _ _ _ i e)

    -- a differing row is the first in which the full replay and the claim differ
    pub differs-first : (k : ℕ) → verdict bit mul alike m order listed extra σ log claimed ≡ differs k → All (Good listed extra) log × DiffersAt alike (replay mul σ log) claimed 0 k m
    unfolding verdict
    differs-first k e = let y = by-diff _ _ _ k e in (bad-none listed extra 0 log y.0, first-diff alike (replay mul σ log) claimed m 0 k y.1)

    -- not reduced: all else is right
    pub not-reduced : verdict bit mul alike m order listed extra σ log claimed ≡ not_reduced
        → All (Good listed extra) log × ((k : ℕ) → k < m → Agree bit ph N (replay mul σ log k) (claimed k)) × (ReducedForm bit order listed extra claimed → ⊥)
    unfolding verdict
    not-reduced e =
        let τ = replay mul σ log in
        let y = by_form _ _ _ e in
        let agree : (k : ℕ) → k < m → Agree bit ph N (τ k) (claimed k) = λ k hk. (tells _ _).0 (diff-none alike τ claimed m 0 y.1 k (omega arith) (omega arith)) in
        (bad-none listed extra 0 log y.0, agree, λ f. false≢true (sym y.2 ∙ (test-iff-walk bit order listed extra asked.once τ).1 (claim→walk log claimed agree f)))

  module _ (names : NamesAll N order) (log log' : List Entry) (claimed claimed' : ℕ → R)
      (y : Right bit mul ph N m order listed extra σ log claimed) (y' : Right bit mul ph N m order listed extra σ log' claimed') where
    -- Two right claims agree in every bit, of every row, if the order names every column;
    pub right-bits : (k : ℕ) → k < m → (c : ℕ) → c < N → bit (claimed k) c ≡ bit (claimed' k) c
    right-bits k hk c hc =
        sym ((y.replayed k hk).bits c hc)
        ∙ unique-bits bit mul laws.bit-mul listed extra asked.once order σ log log' y.entries y'.entries
        (claim→walk log claimed y.replayed y.form) (claim→walk log' claimed' y'.replayed y'.form) k c (names c hc)
        ∙ (y'.replayed k hk).bits c hc

    -- and in every phase, if moreover no product of listed starting rows is the identity with a phase exponent other than 0.
    pub right-phases : NoPhase bit mul ph N listed σ → (k : ℕ) → k < m → ph (σ k) < 4 → ph (claimed k) ≡ ph (claimed' k)
    right-phases free k hk small =
        sym (y.replayed k hk).phase
        ∙ replays-phase bit mul ph expo N laws listed σ free log log' (all-mono (λ e h. h.source_in) log y.entries) (all-mono (λ e h. h.source_in) log' y'.entries) k small
        (λ c hc. (y.replayed k hk).bits c hc ∙ right-bits k hk c hc ∙ sym ((y'.replayed k hk).bits c hc))
        ∙ (y'.replayed k hk).phase
