-- Two replays of listed sources from the same rows, with the same bits, have the same phases, where no product of listed starting rows is the
-- identity with a phase exponent other than 0: two products with the same bits each give an identity with the second, so their phases agree.
-- Assumes nothing.
use Prim.Native.Nat.{ℕ, ◌%◌, ◌<◌}
use native.Mathlib.Omega.{arith}
use mathlib.Core.Path.{◌≡◌, refl, sym, ap, ◌∙◌}
use mathlib.Core.Bool.{Bool, false, xor}
use mathlib.Core.List.{List, [], ◌∷◌, ◌++◌}
use Rattle.pauli.proofs.Bools.{xor_same, xor-back}
use Rattle.reduction.specs.Lists.{In, All}
use Rattle.reduction.specs.Rule.{Entry, mul_at}
use Rattle.reduction.specs.Replay.{replay, product_of}
use Rattle.reduction.specs.Demand.{NoPhase}
use Rattle.reduction.specs.Laws.{Laws}
use Rattle.reduction.proofs.Lists.{all_append}
use Rattle.reduction.proofs.Run.{mul_at-ind}

module _ {R : Type 0} (mul : R → R → R) (assoc : (a b c : R) → mul (mul a b) c ≡ mul a (mul b c)) where
  mul-product : (σ : ℕ → R) (ks : List ℕ) (r x : R) → mul r (product_of mul σ x ks) ≡ product_of mul σ (mul r x) ks
  unfolding product_of
  mul-product σ [] r x = refl
  mul-product σ (k ∷ ks) r x = mul-product σ ks r (mul x (σ k)) ∙ ap (λ y. product_of mul σ y ks) (sym (assoc r x (σ k)))

  product-append : (σ : ℕ → R) (ks js : List ℕ) (r : R) → product_of mul σ r (ks ++ js) ≡ product_of mul σ (product_of mul σ r ks) js
  unfolding product_of
  product-append σ [] js r = refl
  product-append σ (k ∷ ks) js r = product-append σ ks js (mul r (σ k))

  -- a product of two products
  product-product : (σ : ℕ → R) (ks js : List ℕ) (r : R) (b : ℕ) → mul (product_of mul σ r ks) (product_of mul σ (σ b) js) ≡ product_of mul σ r (ks ++ b ∷ js)
  unfolding product_of
  product-product σ ks js r b = mul-product σ js (product_of mul σ r ks) (σ b) ∙ sym (product-append σ ks (b ∷ js) r)

  module _ (L : List ℕ) (σ : ℕ → R) where
    -- row k is the starting row k times listed starting rows
    abbrev From : (ℕ → R) → ℕ → Type 0
    From τ k = (ks : List ℕ) × All (λ j. In j L) ks × (τ k ≡ product_of mul σ (σ k) ks)

    from_step : (τ : ℕ → R) (a b : ℕ) → In b L → ((k : ℕ) → From τ k) → (k : ℕ) → From (mul_at mul τ a b) k
    from_step τ a b m h k =
        mul_at-ind mul (λ r. (ks : List ℕ) × All (λ j. In j L) ks × (r ≡ product_of mul σ (σ k) ks)) τ a b k
        (λ q.
        let ha = h a in
        let hb = h b in (
          ha.0 ++ b ∷ hb.0,
          all_append (λ j. In j L) ha.0 (b ∷ hb.0) ha.1 (m, hb.1),
          ap (λ r. mul r (τ b)) ha.2 ∙ ap (λ r. mul (product_of mul σ (σ a) ha.0) r) hb.2 ∙ product-product σ ha.0 hb.0 (σ a) b
              ∙ ap (λ i. product_of mul σ (σ i) (ha.0 ++ b ∷ hb.0)) (sym q),
        ))
        (λ n. h k)

    from-replay : (es : List Entry) (τ : ℕ → R) → All (λ (e : Entry). In e.source L) es → ((k : ℕ) → From τ k) → (k : ℕ) → From (replay mul τ es) k
    unfolding replay
    from-replay [] τ f h = h
    from-replay (e ∷ es) τ f h = from-replay es (mul_at mul τ e.target e.source) f.1 (from_step τ e.target e.source f.0 h)

    from_start : (k : ℕ) → From σ k
    unfolding product_of
    from_start k = ([], tt, refl)

module _ {R : Type 0} (bit : R → ℕ → Bool) (mul : R → R → R) (ph : R → ℕ) (expo : R → R → ℕ) (N : ℕ) (laws : Laws bit mul ph expo N) (L : List ℕ) (σ : ℕ → R) where
  module _ (free : NoPhase bit mul ph N L σ) where
    prod : ℕ → List ℕ → R
    prod k ks = product_of mul σ (σ k) ks

    -- products with the same bits have the same phase
    same-phase : (j : ℕ) (js : List ℕ) (k : ℕ) (ks : List ℕ) → All (λ i. In i L) (j ∷ js) → All (λ i. In i L) (k ∷ ks)
        → ((c : ℕ) → c < N → bit (prod j js) c ≡ bit (prod k ks) c) → ph (prod j js) % 4 ≡ ph (prod k ks) % 4
    unfolding prod
    same-phase j js k ks hj hk e =
        let p = prod j js in
        let q = prod k ks in
        let zero-at : (r : R) → ((c : ℕ) → c < N → bit r c ≡ bit q c) → (c : ℕ) → c < N → bit (mul r q) c ≡ false
        = λ r er c hc. laws.bit-mul r q c ∙ ap (λ x. xor x (bit q c)) (er c hc) ∙ xor_same (bit q c) in
        let pq : ph (mul p q) ≡ 0
        = ap ph (product-product mul laws.assoc σ js ks (σ j) k)
        ∙ free j (js ++ k ∷ ks) (hj.0, all_append (λ i. In i L) js (k ∷ ks) hj.1 hk)
        (λ c hc. ap (λ r. bit r c) (sym (product-product mul laws.assoc σ js ks (σ j) k)) ∙ zero-at p e c hc) in
        let qq : ph (mul q q) ≡ 0
        = ap ph (product-product mul laws.assoc σ ks ks (σ k) k)
        ∙ free k (ks ++ k ∷ ks) (hk.0, all_append (λ i. In i L) ks (k ∷ ks) hk.1 hk)
        (λ c hc. ap (λ r. bit r c) (sym (product-product mul laws.assoc σ ks ks (σ k) k)) ∙ zero-at q (λ _ _. refl) c hc) in
        let ww : expo p q ≡ expo q q = laws.expo-bits p q q q e (λ _ _. refl) in
        omega (arith, pq, qq, ww, laws.ph-mul p q, laws.ph-mul q q)

    -- a row times listed rows is the row times their product
    by-prod : (r : R) (k : ℕ) (ks : List ℕ) → product_of mul σ r (k ∷ ks) ≡ mul r (prod k ks)
    unfolding prod product_of
    by-prod r k ks = sym (mul-product mul laws.assoc σ ks r (σ k))

    bits-by-prod : (r : R) (k : ℕ) (ks : List ℕ) (c : ℕ) → xor (bit r c) (bit (product_of mul σ r (k ∷ ks)) c) ≡ bit (prod k ks) c
    bits-by-prod r k ks c =
        ap (λ x. xor (bit r c) (bit x c)) (by-prod r k ks) ∙ ap (λ x. xor (bit r c) x) (laws.bit-mul r (prod k ks) c) ∙ xor-back (bit r c) (bit (prod k ks) c)

    unit : (r : R) → ph r < 4 → (k : ℕ) (ks : List ℕ) → All (λ i. In i L) (k ∷ ks)
        → ((c : ℕ) → c < N → bit (product_of mul σ r (k ∷ ks)) c ≡ bit r c) → ph (product_of mul σ r (k ∷ ks)) ≡ ph r
    unfolding prod
    unit r hr k ks h e =
        let q = prod k ks in
        let none : (c : ℕ) → c < N → bit q c ≡ false
        = λ c hc. sym (bits-by-prod r k ks c) ∙ ap (λ x. xor (bit r c) x) (e c hc) ∙ xor_same (bit r c) in
        omega (arith, ap ph (by-prod r k ks), laws.ph-mul r q, laws.expo-none r q none, free k ks h none)

    -- a row times listed rows: where the bits agree, the phases do
    product-phase : (r : R) → ph r < 4 → (ks js : List ℕ) → All (λ i. In i L) ks → All (λ i. In i L) js
        → ((c : ℕ) → c < N → bit (product_of mul σ r ks) c ≡ bit (product_of mul σ r js) c) → ph (product_of mul σ r ks) ≡ ph (product_of mul σ r js)
    unfolding product_of
    product-phase r hr [] [] hk hj e = refl
    product-phase r hr [] (j ∷ js) hk hj e = sym (unit r hr j js hj (λ c hc. sym (e c hc)))
    product-phase r hr (k ∷ ks) [] hk hj e = unit r hr k ks hk e
    product-phase r hr (k ∷ ks) (j ∷ js) hk hj e =
        let p = prod k ks in
        let q = prod j js in
        let pq : (c : ℕ) → c < N → bit p c ≡ bit q c
        = λ c hc. sym (bits-by-prod r k ks c) ∙ ap (λ x. xor (bit r c) x) (e c hc) ∙ bits-by-prod r j js c in
        omega (arith, ap ph (by-prod r k ks), ap ph (by-prod r j js), laws.ph-mul r p, laws.ph-mul r q, laws.expo-bits r r p q (λ _ _. refl) pq, same-phase k ks j js hk hj pq)

    -- two replays with the same bits have the same phases
    pub replays-phase : (es fs : List Entry) → All (λ (e : Entry). In e.source L) es → All (λ (e : Entry). In e.source L) fs → (k : ℕ) → ph (σ k) < 4
        → ((c : ℕ) → c < N → bit (replay mul σ es k) c ≡ bit (replay mul σ fs k) c) → ph (replay mul σ es k) ≡ ph (replay mul σ fs k)
    replays-phase es fs he hf k hk e =
        let a = from-replay mul laws.assoc L σ es σ he (from_start mul laws.assoc L σ) k in
        let b = from-replay mul laws.assoc L σ fs σ hf (from_start mul laws.assoc L σ) k in
        ap ph a.2
        ∙ product-phase (σ k) hk a.0 b.0 a.1 b.1 (λ c hc. ap (λ r. bit r c) (sym a.2) ∙ e c hc ∙ ap (λ r. bit r c) b.2)
        ∙ sym (ap ph b.2)
