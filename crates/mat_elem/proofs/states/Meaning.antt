-- The sum over all pairs is the bra's vector, conjugated, times the operator's matrix times the ket's vector: both are sums over basis vectors, and between
-- two basis vectors the matrix has the element. By linearity, one vector at a time (`sum-vector`). Assumes nothing.
use Rattle.std.proofs.Common.{◌≡◌, ℕ, zero, suc, ◌<◌, ◌≤◌, Bool, true, false, cond, List, length, get_or, ℤ, sym, refl, ap, ◌∙◌, ap₂, arith}
use lib.Bits.{bit_xor}
use Rattle.pauli.specs.Gauss.{Gauss, ◌⊕◌, ◌⊗◌, conj, g0}
use Rattle.pauli.specs.Matrix.{Matrix, Vector, sum, basis, apply, inner}
use Rattle.pauli.proofs.GaussRing.{⊗-comm, ⊗-assoc, ⊕-⊗, g0-⊗}
use Rattle.pauli.proofs.Products.{sum-ext}
use Rattle.pauli.proofs.Vectors.{⊕-g0, zeros}
use Rattle.pauli.proofs.Inner.{⊕-assoc, sum_more, conj-⊕, conj-⊗, conj-basis}
use Rattle.encoding.specs.Ranks.{by_rank}
use Rattle.encoding.proofs.WordLaws.{length-bits, Fit}
use Rattle.checked.specs.Range.{gauss, pair_of}
use Rattle.checked.proofs.Six.{conjugate-is}
use Rattle.mat_elem.specs.Terms.{in_block}
use Rattle.checked.specs.declared.Complex.{Complex}
use Rattle.mat_elem.specs.Sums.{sum_over}
use Rattle.mat_elem.specs.Operator.{state_of, operator}
use Rattle.mat_elem.specs.Sums.{Refused}
use Rattle.mat_elem.specs.states.Sums.{Total, Sum, Terms, State, Running, coefficient_at, element_at, through, on_ket, on_bra, no_pair, all_pairs, vector_lines, total, total_of}
use Rattle.mat_elem.specs.states.Vectors.{vector_of, between, MatElem}
use Rattle.mat_elem.proofs.Entry.{take-bits, entry-low}
use Rattle.mat_elem.proofs.whole.Meaning.{same_sum}
use Rattle.mat_elem.proofs.states.Tests.{Words, tests-words}

-- ---- sums of m numbers

abbrev sigma : (ℕ → Gauss) → ℕ → Gauss
sigma f m = sum_over (λ i. true) ◌⊕◌ g0 f m

sigma-same : (f g : ℕ → Gauss) (m : ℕ) → ((i : ℕ) → i < m → f i ≡ g i) → sigma f m ≡ sigma g m
unfolding sum_over
sigma-same f g zero h = refl
sigma-same f g (suc m) h = ap₂ (λ (x y : Gauss). x ⊕ y) (sigma-same f g m (λ i l. h i (omega arith))) (h m (omega arith))

sigma-⊗ : (f : ℕ → Gauss) (c : Gauss) (m : ℕ) → sigma f m ⊗ c ≡ sigma (λ i. f i ⊗ c) m
unfolding sum_over
sigma-⊗ f c zero = g0-⊗ c
sigma-⊗ f c (suc m) = ⊕-⊗ (sigma f m) (f m) c ∙ ap (λ (x : Gauss). x ⊕ f m ⊗ c) (sigma-⊗ f c m)

sigma-conj : (f : ℕ → Gauss) (m : ℕ) → conj (sigma f m) ≡ sigma (λ i. conj (f i)) m
unfolding sum_over
sigma-conj f zero = refl
sigma-conj f (suc m) = conj-⊕ (sigma f m) (f m) ∙ ap (λ (x : Gauss). x ⊕ conj (f m)) (sigma-conj f m)

-- ---- a vector made of basis vectors

module _ (n : ℕ) (c : ℕ → Gauss) (at : ℕ → List Bool) (h : (i : ℕ) → length (at i) ≡ n) where
  abbrev made : ℕ → Vector
  made m s = sigma (λ i. c i ⊗ basis (at i) s) m

  sum-vector : (f : List Bool → Gauss) (m : ℕ) → sum n (λ s. f s ⊗ made m s) ≡ sigma (λ i. f (at i) ⊗ c i) m
  unfolding sum_over
  sum-vector f zero = zeros n f
  sum-vector f (suc m) = sum_more n f (made m) (c m) (at m) (h m) ∙ ap (λ (x : Gauss). x ⊕ f (at m) ⊗ c m) (sum-vector f m)

conj-made : (c : ℕ → Gauss) (at : ℕ → List Bool) (m : ℕ) (s : List Bool) → conj (sigma (λ i. c i ⊗ basis (at i) s) m) ≡ sigma (λ i. conj (c i) ⊗ basis (at i) s) m
conj-made c at m s =
    sigma-conj (λ i. c i ⊗ basis (at i) s) m
    ∙ sigma-same (λ i. conj (c i ⊗ basis (at i) s)) (λ i. conj (c i) ⊗ basis (at i) s) m
    (λ i l. conj-⊗ (c i) (basis (at i) s) ∙ ap (λ (x : Gauss). conj (c i) ⊗ x) (conj-basis (at i) s))

-- a pair, with the matrix's entry for its element
turn-round : (b k e : Gauss) → (e ⊗ k) ⊗ conj b ≡ pair_of b k e
turn-round b k e =
    ⊗-assoc e k (conj b) ∙ ⊗-comm e (k ⊗ conj b) ∙ ap (λ (x : Gauss). x ⊗ e) (⊗-comm k (conj b) ∙ sym (conjugate-is b k))

-- the inner product of two such vectors, with a matrix between them
module _ (n : ℕ) (M : Matrix) (b k : ℕ → Gauss) (at on : ℕ → List Bool) (hb : (i : ℕ) → length (at i) ≡ n) (hk : (i : ℕ) → length (on i) ≡ n) (p q : ℕ) where
  pairs-between : inner n (made n b at hb p) (apply n M (made n k on hk q)) ≡ sigma (λ i. sigma (λ j. pair_of (b i) (k j) (M (at i) (on j))) q) p
  pairs-between =
      let w = apply n M (made n k on hk q) in
      sum-ext n (λ s. conj (made n b at hb p s) ⊗ w s) (λ s. w s ⊗ made n (λ i. conj (b i)) at hb p s)
      (λ s. ⊗-comm (conj (made n b at hb p s)) (w s) ∙ ap (λ (x : Gauss). w s ⊗ x) (conj-made b at p s))
      ∙ sum-vector n (λ i. conj (b i)) at hb w p
      ∙ sigma-same (λ i. w (at i) ⊗ conj (b i)) (λ i. sigma (λ j. pair_of (b i) (k j) (M (at i) (on j))) q) p (λ i l. one i)
    where
      one : (i : ℕ) → apply n M (made n k on hk q) (at i) ⊗ conj (b i) ≡ sigma (λ j. pair_of (b i) (k j) (M (at i) (on j))) q
      one i =
          ap (λ (x : Gauss). x ⊗ conj (b i)) (sum-vector n k on hk (M (at i)) q)
          ∙ sigma-⊗ (λ j. M (at i) (on j) ⊗ k j) (conj (b i)) q
          ∙ sigma-same (λ j. (M (at i) (on j) ⊗ k j) ⊗ conj (b i)) (λ j. pair_of (b i) (k j) (M (at i) (on j))) q (λ j l. turn-round (b i) (k j) (M (at i) (on j)))

-- ---- the run's sum

module _ (A : Terms) (ket : State) (w : ℕ) (b : Gauss) where
  abbrev ket_pair : ℕ → Gauss
  ket_pair j = pair_of b (coefficient_at ket j) (element_at A w (get_or ket.words j 0))

  kets-sum : (r : Running) (m : ℕ) → (through (on_ket A ket w b) r m).sum ≡ r.sum ⊕ sigma ket_pair m
  unfolding through sum_over
  kets-sum r zero = sym (⊕-g0 r.sum)
  kets-sum r (suc m) = ap (λ (x : Gauss). x ⊕ ket_pair m) (kets-sum r m) ∙ ⊕-assoc r.sum (sigma ket_pair m) (ket_pair m)

module _ (A : Terms) (bra ket : State) where
  abbrev bra_pairs : ℕ → Gauss
  bra_pairs i = sigma (ket_pair A ket (get_or bra.words i 0) (coefficient_at bra i)) (length ket.words)

  bras-sum : (m : ℕ) → (through (on_bra A bra ket) no_pair m).sum ≡ sigma bra_pairs m
  unfolding through sum_over
  bras-sum zero = refl
  bras-sum (suc m) =
      kets-sum A ket (get_or bra.words m 0) (coefficient_at bra m) (through (on_bra A bra ket) no_pair m) (length ket.words)
      ∙ ap (λ (x : Gauss). x ⊕ bra_pairs m) (bras-sum m)

-- ---- the element is the matrix's entry

length-state : (n w : ℕ) → n ≤ 64 → length (state_of n w) ≡ n
length-state n w l = ap length (take-bits n 64 w l) ∙ length-bits n w

module _ (n : ℕ) (A : Terms) (bra ket : State) (e : by_rank (vector_lines n A bra ket) ≡ 0) (low : Words n A bra ket e) where
  element-entry : (i j : ℕ) → i < length bra.words → j < length ket.words
      → operator n A.xs A.zs A.re A.im (state_of n (get_or bra.words i 0)) (state_of n (get_or ket.words j 0)) ≡ element_at A (get_or bra.words i 0) (get_or ket.words j 0)
  element-entry i j h k =
      let w = get_or bra.words i 0 in
      let v = get_or ket.words j 0 in
      entry-low n A.xs A.zs A.re A.im w v low.most (low.bra-low i h) (low.ket-low j k) low.term-low
      ∙ sym (same_sum A.xs A.zs A.re A.im v (in_block A.xs (bit_xor w v)) (length A.xs))

  pub sum-between : (all_pairs A bra ket).sum ≡ between n A bra ket
  unfolding vector_of
  sum-between =
      let M = operator n A.xs A.zs A.re A.im in
      bras-sum A bra ket (length bra.words)
      ∙ sym
      (pairs-between n M (coefficient_at bra) (coefficient_at ket) (λ i. state_of n (get_or bra.words i 0)) (λ j. state_of n (get_or ket.words j 0))
      (λ i. length-state n (get_or bra.words i 0) low.most) (λ j. length-state n (get_or ket.words j 0) low.most) (length bra.words) (length ket.words)
      ∙ sigma-same (λ i. sigma (λ j. pair_of (coefficient_at bra i) (coefficient_at ket j) (M (state_of n (get_or bra.words i 0)) (state_of n (get_or ket.words j 0)))) (length ket.words)) (bra_pairs A bra ket) (length bra.words)
      (λ i h. sigma-same (λ j. pair_of (coefficient_at bra i) (coefficient_at ket j) (M (state_of n (get_or bra.words i 0)) (state_of n (get_or ket.words j 0)))) (ket_pair A ket (get_or bra.words i 0) (coefficient_at bra i)) (length ket.words)
      (λ j k. ap (pair_of (coefficient_at bra i) (coefficient_at ket j)) (element-entry i j h k))))

-- ---- what the call answers

given-sum : (k : ℕ) (r : Running) (u v : ℤ) → total k r ≡ Sum u v → (k ≡ 0) × (gauss u v ≡ r.sum)
given-sum zero r u v q = go r.fits q
  where
    go : (f : Bool) → cond f (Sum r.sum.re r.sum.im) (Refused 16) ≡ Sum u v → (◌≡◌ {A = ℕ} 0 0) × (gauss u v ≡ r.sum)
    go true z = let q : ◌≡◌ {A = Complex ℤ} (record { re = r.sum.re; im = r.sum.im }) (record { re = u; im = v }) = cc in (refl, sym (ap (λ (c : Complex ℤ). gauss c.re c.im) q))
    go false z = let no : ◌≡◌ {A = ℕ} 0 1 = cc in absurd (omega arith)
given-sum (suc k) r u v q = let no : ◌≡◌ {A = ℕ} 0 1 = cc in absurd (omega arith)

pub mat-elem : (n : ℕ) (A : Terms) (bra ket : State) {r : Total} → r ≡ total_of n A bra ket → Fit A.xs → Fit A.zs → Fit bra.words → Fit ket.words → MatElem n A bra ket r
unfolding total_of
mat-elem n A bra ket {r} e fx fz fb fk = record { answer = e; meaning = λ u v q. go u v (given-sum (by_rank (vector_lines n A bra ket)) (all_pairs A bra ket) u v (sym e ∙ q)) }
  where
    go : (u v : ℤ) → (by_rank (vector_lines n A bra ket) ≡ 0) × (gauss u v ≡ (all_pairs A bra ket).sum) → gauss u v ≡ between n A bra ket
    go u v g = g.1 ∙ sum-between n A bra ket g.0 (tests-words n A bra ket g.0 fx fz fb fk)
