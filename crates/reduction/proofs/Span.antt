-- Two replays of good entries from the same rows, both in reduced form, have the same bits in every ordered column: the sums of listed rows are the
-- same throughout, and two walks along the order over the same sums go in step. Assumes nothing.
use Prim.Native.Nat.{ℕ}
use mathlib.Core.Path.{◌≡◌, refl, sym, ap, ◌∙◌, subst}
use mathlib.Core.Logic.{◌⊎◌, inl, inr, ⊎_elim}
use mathlib.Core.Bool.{Bool, true, false, xor, false≢true}
use mathlib.Core.List.{List, [], ◌∷◌, ◌++◌}
use Rattle.pauli.proofs.Bools.{xor_ff, xor-ff-l, xor_same, xor_comm, xor_assoc, xor-eq, xor-back, xor-swap}
use Rattle.reduction.specs.Lists.{In, Distinct, All}
use Rattle.reduction.specs.Rule.{Entry, mul_at}
use Rattle.reduction.specs.Replay.{replay}
use Rattle.reduction.specs.Demand.{Good}
use Rattle.reduction.proofs.Lists.{all-mono, same?, in?, in_left}
use Rattle.reduction.proofs.Walk.{Walk, end, skip, pivot_at}
use Rattle.reduction.proofs.Run.{mul_at-ind}

-- the sums of rows of a list, repeats allowed: `r k` is the bits of row k
pub data Gen (r : ℕ → ℕ → Bool) (L : List ℕ) : (ℕ → Bool) → Type 0 where
  nothing : {v : ℕ → Bool} → ((c : ℕ) → v c ≡ false) → Gen r L v
  plus : {v : ℕ → Bool} (k : ℕ) (w : ℕ → Bool) → In k L → Gen r L w → ((c : ℕ) → v c ≡ xor (r k c) (w c)) → Gen r L v

module _ {r : ℕ → ℕ → Bool} {L : List ℕ} where
  gen-ext : {v u : ℕ → Bool} → Gen r L v → ((c : ℕ) → u c ≡ v c) → Gen r L u
  gen-ext (nothing z) e = nothing (λ c. e c ∙ z c)
  gen-ext (plus k w m g f) e = plus k w m g (λ c. e c ∙ f c)

  pub gen-add : {v w u : ℕ → Bool} → Gen r L v → Gen r L w → ((c : ℕ) → u c ≡ xor (v c) (w c)) → Gen r L u
  gen-add {w} (nothing z) h e = gen-ext h (λ c. e c ∙ ap (λ x. xor x (w c)) (z c) ∙ xor-ff-l (w c))
  gen-add {w} (plus k v' m g f) h e =
      plus k (λ c. xor (v' c) (w c)) m (gen-add g h (λ c. refl)) (λ c. e c ∙ ap (λ x. xor x (w c)) (f c) ∙ xor_assoc (r k c) (v' c) (w c))

  gen-row : (k : ℕ) → In k L → Gen r L (r k)
  gen-row k m = plus k (λ c. false) m (nothing (λ c. refl)) (λ c. sym (xor_ff (r k c)))

  gen-zero : {v : ℕ → Bool} (c : ℕ) → ((k : ℕ) → In k L → r k c ≡ false) → Gen r L v → v c ≡ false
  gen-zero c z (nothing e) = e c
  gen-zero c z (plus k w m g e) = e c ∙ ap (λ x. xor x (w c)) (z k m) ∙ xor-ff-l (w c) ∙ gen-zero c z g

pub gen-map : {r r' : ℕ → ℕ → Bool} {L L' : List ℕ} {v : ℕ → Bool} → ((k : ℕ) → In k L → Gen r' L' (r k)) → Gen r L v → Gen r' L' v
gen-map h (nothing e) = nothing e
gen-map h (plus k w m g e) = gen-add (h k m) (gen-map h g) e

-- a sum has the first row or has it not
gen-split : {r : ℕ → ℕ → Bool} {p : ℕ} {L : List ℕ} {v : ℕ → Bool} → Gen r (p ∷ L) v → Gen r L v ⊎ Gen r L (λ c. xor (r p c) (v c))
gen-split (nothing e) = inl (nothing e)
gen-split {r} {p} {L} {v} (plus k w m g e) = go m (gen-split g)
  where
    go : (k ≡ p) ⊎ In k L → Gen r L w ⊎ Gen r L (λ c. xor (r p c) (w c)) → Gen r L v ⊎ Gen r L (λ c. xor (r p c) (v c))
    go (inl q) (inl h) = inr (gen-ext h (λ c. ap (λ x. xor (r p c) x) (e c ∙ ap (λ j. xor (r j c) (w c)) q) ∙ xor-back (r p c) (w c)))
    go (inl q) (inr h) = inl (gen-ext h (λ c. e c ∙ ap (λ j. xor (r j c) (w c)) q))
    go (inr n) (inl h) = inl (plus k w n h e)
    go (inr n) (inr h) = inr (plus k (λ c. xor (r p c) (w c)) n h (λ c. ap (λ x. xor (r p c) x) (e c) ∙ xor-swap (r p c) (r k c) (w c)))

-- where a column is 1 in the first row and 0 in the others, a sum with 0 there has not the first row
gen-drop : {r : ℕ → ℕ → Bool} {p : ℕ} {L : List ℕ} {v : ℕ → Bool} (c : ℕ) → r p c ≡ true → ((k : ℕ) → In k L → r k c ≡ false) → v c ≡ false
    → Gen r (p ∷ L) v → Gen r L v
unfolding xor
gen-drop {r} {p} {L} {v} c one z hv g =
    ⊎_elim (λ h. h)
    (λ h. absurd (false≢true (sym (gen-zero c z h) ∙ ap (λ x. xor x (v c)) one ∙ ap (λ x. xor true x) hv)))
    (gen-split g)

module _ {R : Type 0} (bit : R → ℕ → Bool) (mul : R → R → R) (bit-mul : (a b : R) (c : ℕ) → bit (mul a b) c ≡ xor (bit a c) (bit b c)) where
  abbrev bits : (ℕ → R) → ℕ → ℕ → Bool
  bits σ k c = bit (σ k) c

  -- The lock-step walk along two reduced forms of the same span.
  lock : {σ τ : ℕ → R} {all rest order : List ℕ} → Distinct rest → ((j : ℕ) → In j rest → In j all)
      → Walk bit σ all rest order → Walk bit τ all rest order
      → ((v : ℕ → Bool) → Gen (bits σ) rest v → Gen (bits τ) rest v) → ((v : ℕ → Bool) → Gen (bits τ) rest v → Gen (bits σ) rest v)
      → (k : ℕ) → In k all → Gen (bits τ) rest (λ c. xor (bit (σ k) c) (bit (τ k) c))
      → (c : ℕ) → In c order ⊎ ((j : ℕ) → In j rest → bit (τ j) c ≡ false)
      → bit (σ k) c ≡ bit (τ k) c
  lock d sub end end to fro k m g c h = ⊎_elim (λ x. absurd x) (λ z. xor-eq _ _ (gen-zero c z g)) h
  lock {σ} {τ} d sub (skip {rest} {c = x} {cs} z r) (skip z' r') to fro k m g c h =
      lock d sub r r' to fro k m g c (⊎_elim (⊎_elim (λ q. inr (λ j n. ap (λ i. bit (τ j) i) q ∙ z' j n)) (λ n. inl n)) (λ y. inr y) h)
  lock {σ} {τ} d sub (skip z r) (pivot_at {p} {c = x} o y r') to fro k m g c h =
      absurd (false≢true (sym (gen-zero x z (fro (bits τ p) (gen-row p (inl refl)))) ∙ o))
  lock {σ} {τ} d sub (pivot_at {p} {c = x} o y r) (skip z' r') to fro k m g c h =
      absurd (false≢true (sym (gen-zero x z' (to (bits σ p) (gen-row p (inl refl)))) ∙ o))
  lock {σ} {τ} d sub (pivot_at {p} {rest} {c = x} {cs} o y r) (pivot_at o' y' r') to fro k m g c h =
      let z : (j : ℕ) → In j rest → bit (σ j) x ≡ false = λ j n. y j (sub j (inr n)) (λ q. d.0 (subst (λ i. In i rest) q n)) in
      let z' : (j : ℕ) → In j rest → bit (τ j) x ≡ false = λ j n. y' j (sub j (inr n)) (λ q. d.0 (subst (λ i. In i rest) q n)) in
      let eq : bit (σ k) x ≡ bit (τ k) x
      = ⊎_elim (λ q. ap (λ i. bit (σ i) x) q ∙ o ∙ sym o' ∙ ap (λ i. bit (τ i) x) (sym q)) (λ n. y k m n ∙ sym (y' k m n)) (same? k p) in
      lock d.1 (λ j n. sub j (inr n)) r r'
      (λ v gv. gen-drop x o' z' (gen-zero x z gv) (to v (gen-map (λ j n. gen-row j (inr n)) gv)))
      (λ v gv. gen-drop x o z (gen-zero x z' gv) (fro v (gen-map (λ j n. gen-row j (inr n)) gv)))
      k m (gen-drop x o' z' (ap (λ b. xor b (bit (τ k) x)) eq ∙ xor_same (bit (τ k) x)) g)
      c (⊎_elim (⊎_elim (λ q. inr (λ j n. ap (λ i. bit (τ j) i) q ∙ z' j n)) (λ n. inl n)) (λ w. inr (λ j n. w j (inr n))) h)

  at_target : (σ : ℕ → R) (a b c : ℕ) → bit (mul_at mul σ a b a) c ≡ xor (bit (σ a) c) (bit (σ b) c)
  at_target σ a b c = mul_at-ind mul (λ r. bit r c ≡ xor (bit (σ a) c) (bit (σ b) c)) σ a b a (λ _. bit-mul (σ a) (σ b) c) (λ n. absurd (n refl))

  at_other : (σ : ℕ → R) (a b k c : ℕ) → (k ≡ a → ⊥) → bit (mul_at mul σ a b k) c ≡ bit (σ k) c
  at_other σ a b k c n = mul_at-ind mul (λ r. bit r c ≡ bit (σ k) c) σ a b k (λ q. absurd (n q)) (λ _. refl)

  -- A product of a row by another, listed row keeps the sums of listed rows, and moves a row by a listed row.
  module _ (L : List ℕ) where
    abbrev pub Fair : Entry → Type 0
    Fair e = In e.source L × (e.target ≡ e.source → ⊥)

    span-step : (σ : ℕ → R) (e : Entry) → Fair e → (v : ℕ → Bool) → Gen (bits σ) L v → Gen (bits (mul_at mul σ e.target e.source)) L v
    span-step σ e f v =
        let a = e.target in
        let b = e.source in
        gen-map
        (λ k m. ⊎_elim
        (λ q. gen-add (gen-row a (subst (λ i. In i L) q m)) (gen-row b f.0)
        (λ c.
        ap (λ i. bit (σ i) c) q ∙ sym (xor_ff (bit (σ a) c)) ∙ ap (λ x. xor (bit (σ a) c) x) (sym (xor_same (bit (σ b) c)))
        ∙ sym (xor_assoc (bit (σ a) c) (bit (σ b) c) (bit (σ b) c))
        ∙ ap (λ x. xor x (bit (σ b) c)) (sym (at_target σ a b c))
        ∙ ap (λ x. xor (bit (mul_at mul σ a b a) c) x) (sym (at_other σ a b b c (λ q'. f.1 (sym q'))))))
        (λ n. gen-ext (gen-row k m) (λ c. sym (at_other σ a b k c n)))
        (same? k a))

    span-back : (σ : ℕ → R) (e : Entry) → Fair e → (v : ℕ → Bool) → Gen (bits (mul_at mul σ e.target e.source)) L v → Gen (bits σ) L v
    span-back σ e f v =
        let a = e.target in
        let b = e.source in
        gen-map
        (λ k m. ⊎_elim
        (λ q. gen-add (gen-row a (subst (λ i. In i L) q m)) (gen-row b f.0) (λ c. ap (λ i. bit (mul_at mul σ a b i) c) q ∙ at_target σ a b c))
        (λ n. gen-ext (gen-row k m) (λ c. at_other σ a b k c n))
        (same? k a))

    moved-step : (σ : ℕ → R) (e : Entry) → Fair e → (k : ℕ) → Gen (bits σ) L (λ c. xor (bit (σ k) c) (bit (mul_at mul σ e.target e.source k) c))
    moved-step σ e f k =
        let a = e.target in
        let b = e.source in
        ⊎_elim
        (λ q. gen-ext (gen-row b f.0)
        (λ c. ap (λ i. xor (bit (σ i) c) (bit (mul_at mul σ a b i) c)) q ∙ ap (λ x. xor (bit (σ a) c) x) (at_target σ a b c) ∙ xor-back (bit (σ a) c) (bit (σ b) c)))
        (λ n. nothing (λ c. ap (λ x. xor (bit (σ k) c) x) (at_other σ a b k c n) ∙ xor_same (bit (σ k) c)))
        (same? k a)

    span_to : (es : List Entry) (σ : ℕ → R) → All Fair es → (v : ℕ → Bool) → Gen (bits σ) L v → Gen (bits (replay mul σ es)) L v
    unfolding replay
    span_to [] σ f v g = g
    span_to (e ∷ es) σ f v g = span_to es (mul_at mul σ e.target e.source) f.1 v (span-step σ e f.0 v g)

    span-from : (es : List Entry) (σ : ℕ → R) → All Fair es → (v : ℕ → Bool) → Gen (bits (replay mul σ es)) L v → Gen (bits σ) L v
    unfolding replay
    span-from [] σ f v g = g
    span-from (e ∷ es) σ f v g = span-back σ e f.0 v (span-from es (mul_at mul σ e.target e.source) f.1 v g)

    -- each row is moved by a sum of listed rows
    moved : (es : List Entry) (σ : ℕ → R) → All Fair es → (k : ℕ) → Gen (bits σ) L (λ c. xor (bit (σ k) c) (bit (replay mul σ es k) c))
    unfolding replay
    moved [] σ f k = nothing (λ c. xor_same (bit (σ k) c))
    moved (e ∷ es) σ f k =
        let σ' = mul_at mul σ e.target e.source in
        gen-add (moved-step σ e f.0 k) (span-back σ e f.0 _ (moved es σ' f.1 k))
        (λ c. sym (xor_assoc (bit (σ k) c) (bit (σ' k) c) _ ∙ ap (λ x. xor (bit (σ k) c) x) (xor-back (bit (σ' k) c) _)))

  pub untouched : (all : List ℕ) (es : List Entry) (σ : ℕ → R) (k : ℕ) → All (λ (e : Entry). In e.target all) es → (In k all → ⊥) → replay mul σ es k ≡ σ k
  unfolding replay
  untouched all [] σ k h n = refl
  untouched all (e ∷ es) σ k h n =
      untouched all es (mul_at mul σ e.target e.source) k h.1 n
      ∙ mul_at-ind mul (λ r. r ≡ σ k) σ e.target e.source k (λ q. absurd (n (subst (λ i. In i all) (sym q) h.0))) (λ _. refl)

  module _ (listed extra : List ℕ) (once : Distinct listed) where
    pub unique-bits : (order : List ℕ) (σ : ℕ → R) (es fs : List Entry) → All (Good listed extra) es → All (Good listed extra) fs
        → Walk bit (replay mul σ es) (listed ++ extra) listed order → Walk bit (replay mul σ fs) (listed ++ extra) listed order
        → (k c : ℕ) → In c order → bit (replay mul σ es k) c ≡ bit (replay mul σ fs k) c
    unique-bits order σ es fs he hf re rf k c hc =
        let fair : (es : List Entry) → All (Good listed extra) es → All (Fair listed) es = λ l h. all-mono (λ e g. (g.source_in, g.other)) l h in
        let aim : (es : List Entry) → All (Good listed extra) es → All (λ (e : Entry). In e.target (listed ++ extra)) es = λ l h. all-mono (λ e g. g.target-in) l h in
        let fe = fair es he in
        let ff = fair fs hf in
        ⊎_elim
        (λ m. lock once (λ j n. in_left j listed extra n) re rf
        (λ v g. span_to listed fs σ ff v (span-from listed es σ fe v g)) (λ v g. span_to listed es σ fe v (span-from listed fs σ ff v g))
        k m
        (span_to listed fs σ ff _ (gen-add (moved listed es σ fe k) (moved listed fs σ ff k)
        (λ x. sym (ap (λ y. xor y (xor (bit (σ k) x) (bit (replay mul σ fs k) x))) (xor_comm (bit (σ k) x) (bit (replay mul σ es k) x))
        ∙ xor_assoc (bit (replay mul σ es k) x) (bit (σ k) x) _ ∙ ap (λ y. xor (bit (replay mul σ es k) x) y) (xor-back (bit (σ k) x) _)))))
        c (inl hc))
        (λ n. ap (λ r. bit r c) (untouched (listed ++ extra) es σ k (aim es he) n ∙ sym (untouched (listed ++ extra) fs σ k (aim fs hf) n)))
        (in? k (listed ++ extra))
