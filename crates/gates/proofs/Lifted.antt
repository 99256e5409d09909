-- A small matrix on some of n qubits: conjugating a row by it is conjugating the Paulis at these qubits, times the row's rest. Assumes nothing.
use mathlib.Core.Path.{◌≡◌, refl, sym, ap, ap₂, ◌∙◌, subst}
use mathlib.Core.Bool.{Bool, true, false, cond, beq, ◌&&◌}
use mathlib.Core.List.{List, [], ◌∷◌}
use Prim.Native.Nat.{ℕ, zero, suc, ◌<◌}
use native.Mathlib.Nat.{suc_inj, not-suc-le-zero, le_of_suc-le-suc}
use native.Mathlib.Omega.{arith}
use lib.ListN.{length, get_or, set, length-set}
use lib.IntN.{+ℤ_idl, +ℤ_idr}
use Rattle.pauli.specs.Gauss.{Gauss, ◌⊕◌, ◌⊗◌, g0}
use Rattle.pauli.specs.Matrix.{Matrix, pauli_entry, matrix, sum, times, same_state}
use Rattle.pauli.specs.Pauli.{Pauli}
use Rattle.pauli.specs.declared.PauliMatrix.TheVariants.{I}
use Rattle.pauli.proofs.GaussRing.{by_parts, ⊗-comm, ⊗-assoc, g1-⊗, g0-⊗}
use Rattle.pauli.proofs.IntRing.{add4}
use Rattle.pauli.proofs.Products.{sum-scale, sum-ext}
use Rattle.gates.specs.Places.{at, put, blank, Places}
use Rattle.gates.specs.Matrices.{lift}
use Rattle.gates.proofs.Spots.{put-set, blank-set, get_or-blank, length-put, length-blank, length_at, at-put, put-at, blank-put}

-- ---- sums

g0-⊕ : (u : Gauss) → g0 ⊕ u ≡ u
g0-⊕ u = by_parts (+ℤ_idl u.re) (+ℤ_idl u.im)

⊕-g0 : (u : Gauss) → u ⊕ g0 ≡ u
⊕-g0 u = by_parts (+ℤ_idr u.re) (+ℤ_idr u.im)

⊕-four : (a b c d : Gauss) → (a ⊕ b) ⊕ (c ⊕ d) ≡ (a ⊕ c) ⊕ (b ⊕ d)
⊕-four a b c d = by_parts (add4 a.re b.re c.re d.re) (add4 a.im b.im c.im d.im)

sum-add : (n : ℕ) (f g : List Bool → Gauss) → sum n (λ s. f s ⊕ g s) ≡ sum n f ⊕ sum n g
sum-add zero f g = refl
sum-add (suc n) f g =
    ap₂ (λ (x y : Gauss). x ⊕ y) (sum-add n (λ s. f (false ∷ s)) (λ s. g (false ∷ s))) (sum-add n (λ s. f (true ∷ s)) (λ s. g (true ∷ s)))
    ∙ ⊕-four (sum n (λ s. f (false ∷ s))) (sum n (λ s. g (false ∷ s))) (sum n (λ s. f (true ∷ s))) (sum n (λ s. g (true ∷ s)))

sum-zero : (n : ℕ) → sum n (λ s. g0) ≡ g0
sum-zero zero = refl
sum-zero (suc n) = ap₂ (λ (x y : Gauss). x ⊕ y) (sum-zero n) (sum-zero n) ∙ g0-⊕ g0

-- equal at the states of n qubits
pub sum-on : (n : ℕ) (f g : List Bool → Gauss) → ((s : List Bool) → length s ≡ n → f s ≡ g s) → sum n f ≡ sum n g
sum-on zero f g h = h [] refl
sum-on (suc n) f g h =
    ap₂ (λ (x y : Gauss). x ⊕ y) (sum-on n (λ s. f (false ∷ s)) (λ s. g (false ∷ s)) (λ s e. h (false ∷ s) (ap suc e)))
    (sum-on n (λ s. f (true ∷ s)) (λ s. g (true ∷ s)) (λ s e. h (true ∷ s) (ap suc e)))

-- ---- the states that agree with r at all qubits but qs

same-comm : (r s : List Bool) → same_state r s ≡ same_state s r
same-comm [] [] = refl
same-comm [] (b ∷ s) = refl
same-comm (a ∷ r) [] = refl
same-comm (false ∷ r) (false ∷ s) = same-comm r s
same-comm (false ∷ r) (true ∷ s) = refl
same-comm (true ∷ r) (false ∷ s) = refl
same-comm (true ∷ r) (true ∷ s) = same-comm r s

and-swap : (a b c : Bool) → a && (b && c) ≡ b && (a && c)
and-swap false false c = refl
and-swap false true c = refl
and-swap true b c = refl

-- one place told apart
same_at : (x y : List Bool) (q : ℕ) (b : Bool) → length y ≡ length x → q < length x
    → same_state (set x q b) y ≡ beq b (get_or y q false) && same_state (set x q false) (set y q false)
same_at [] y q b e h = absurd (not-suc-le-zero h)
same_at (a ∷ x) [] q b e h = absurd (omega arith)
same_at (a ∷ x) (c ∷ y) zero b e h = refl
same_at (a ∷ x) (c ∷ y) (suc q) b e h =
    ap (λ (z : Bool). beq a c && z) (same_at x y q b (suc_inj e) (le_of_suc-le-suc h))
    ∙ and-swap (beq a c) (beq b (get_or y q false)) (same_state (set x q false) (set y q false))

either : (b n : Bool) (z : Gauss) → cond n z g0 ≡ cond (beq false b && n) z g0 ⊕ cond (beq true b && n) z g0
either false n z = sym (⊕-g0 (cond n z g0))
either true n z = sym (g0-⊕ (cond n z g0))

two_ways : (x y : List Bool) (q : ℕ) (z : Gauss) → length y ≡ length x → q < length x
    → cond (same_state (set x q false) (set y q false)) z g0 ≡ cond (same_state (set x q false) y) z g0 ⊕ cond (same_state (set x q true) y) z g0
two_ways x y q z e h =
    either (get_or y q false) (same_state (set x q false) (set y q false)) z
    ∙ ap₂ (λ (u v : Bool). cond u z g0 ⊕ cond v z g0) (sym (same_at x y q false e h)) (sym (same_at x y q true e h))

only : (n : ℕ) (r : List Bool) (f : List Bool → Gauss) → length r ≡ n → sum n (λ s. cond (same_state r s) (f s) g0) ≡ f r
only zero [] f e = refl
only zero (a ∷ r) f e = absurd (omega arith)
only (suc n) [] f e = absurd (omega arith)
only (suc n) (false ∷ r) f e =
    ap₂ (λ (x y : Gauss). x ⊕ y) (only n r (λ s. f (false ∷ s)) (suc_inj e)) (sum-zero n) ∙ ⊕-g0 (f (false ∷ r))
only (suc n) (true ∷ r) f e =
    ap₂ (λ (x y : Gauss). x ⊕ y) (sum-zero n) (only n r (λ s. f (true ∷ s)) (suc_inj e)) ∙ g0-⊕ (f (true ∷ r))

near : (n : ℕ) (qs : List ℕ) (r : List Bool) (f : List Bool → Gauss) → Places n qs → length r ≡ n
    → sum n (λ s. cond (same_state (blank false r qs) (blank false s qs)) (f s) g0) ≡ sum (length qs) (λ v. f (put r qs v))
near n [] r f h e = only n r f e
near n (q ∷ qs) r f h e =
    sum-on n (λ s. cond (same_state (blank false r (q ∷ qs)) (blank false s (q ∷ qs))) (f s) g0) (λ s. one false s ⊕ one true s)
    (λ s k. two_ways (blank false r qs) (blank false s qs) q (f s)
    (length-blank false s qs ∙ k ∙ sym e ∙ sym (length-blank false r qs))
    (subst (λ (m : ℕ). q < m) (sym (length-blank false r qs ∙ e)) h.0)
    ∙ ap₂ (λ (u v : List Bool). cond (same_state u (blank false s qs)) (f s) g0 ⊕ cond (same_state v (blank false s qs)) (f s) g0)
    (sym (blank-set false r q false qs h.1.0)) (sym (blank-set false r q true qs h.1.0)))
    ∙ sum-add n (one false) (one true)
    ∙ ap₂ (λ (x y : Gauss). x ⊕ y) (side false (near n qs (set r q false) f h.1.1 (length-set r q false ∙ e))) (side true (near n qs (set r q true) f h.1.1 (length-set r q true ∙ e)))
  where
    one : Bool → List Bool → Gauss
    one b s = cond (same_state (blank false (set r q b) qs) (blank false s qs)) (f s) g0

    side : (b : Bool) → sum n (one b) ≡ sum (length qs) (λ v. f (put (set r q b) qs v)) → sum n (one b) ≡ sum (length qs) (λ v. f (set (put r qs v) q b))
    side b k = k ∙ sum-ext (length qs) (λ v. f (put (set r q b) qs v)) (λ v. f (set (put r qs v) q b)) (λ v. ap f (put-set r q b qs v h.1.0))

-- ---- a lifted matrix from the left and from the right

when-⊗ : (b : Bool) (x y : Gauss) → cond b x g0 ⊗ y ≡ cond b (x ⊗ y) g0
when-⊗ false x y = g0-⊗ y
when-⊗ true x y = refl

⊗-when : (b : Bool) (x y : Gauss) → y ⊗ cond b x g0 ≡ cond b (y ⊗ x) g0
⊗-when false x y = ⊗-comm y g0 ∙ g0-⊗ y
⊗-when true x y = refl

module _ (n : ℕ) (qs : List ℕ) (h : Places n qs) where
  from-left : (g A : Matrix) (r s : List Bool) → length r ≡ n
      → times n (lift qs g) A r s ≡ sum (length qs) (λ v. g (at false r qs) v ⊗ A (put r qs v) s)
  from-left g A r s e =
      sum-ext n (λ u. lift qs g r u ⊗ A u s) (λ u. cond (same_state (blank false r qs) (blank false u qs)) (g (at false r qs) (at false u qs) ⊗ A u s) g0)
      (λ u. when-⊗ (same_state (blank false r qs) (blank false u qs)) (g (at false r qs) (at false u qs)) (A u s))
      ∙ near n qs r (λ u. g (at false r qs) (at false u qs) ⊗ A u s) h e
      ∙ sum-on (length qs) (λ v. g (at false r qs) (at false (put r qs v) qs) ⊗ A (put r qs v) s) (λ v. g (at false r qs) v ⊗ A (put r qs v) s)
      (λ v k. ap (λ (w : List Bool). g (at false r qs) w ⊗ A (put r qs v) s) (at-put false r qs v (subst (λ (m : ℕ). Places m qs) (sym e) h) k))

  from-right : (g A : Matrix) (r s : List Bool) → length s ≡ n
      → times n A (lift qs g) r s ≡ sum (length qs) (λ v. A r (put s qs v) ⊗ g v (at false s qs))
  from-right g A r s e =
      sum-ext n (λ u. A r u ⊗ lift qs g u s) (λ u. cond (same_state (blank false s qs) (blank false u qs)) (A r u ⊗ g (at false u qs) (at false s qs)) g0)
      (λ u. ⊗-when (same_state (blank false u qs) (blank false s qs)) (g (at false u qs) (at false s qs)) (A r u)
      ∙ ap (λ (b : Bool). cond b (A r u ⊗ g (at false u qs) (at false s qs)) g0) (same-comm (blank false u qs) (blank false s qs)))
      ∙ near n qs s (λ u. A r u ⊗ g (at false u qs) (at false s qs)) h e
      ∙ sum-on (length qs) (λ v. A r (put s qs v) ⊗ g (at false (put s qs v) qs) (at false s qs)) (λ v. A r (put s qs v) ⊗ g v (at false s qs))
      (λ v k. ap (λ (w : List Bool). A r (put s qs v) ⊗ g w (at false s qs)) (at-put false s qs v (subst (λ (m : ℕ). Places m qs) (sym e) h) k))

-- ---- a row's matrix, told apart at some qubits

three : (a b c : Gauss) → a ⊗ (b ⊗ c) ≡ b ⊗ (a ⊗ c)
three a b c = sym (⊗-assoc a b c) ∙ ap (λ (x : Gauss). x ⊗ c) (⊗-comm a b) ∙ ⊗-assoc b a c

apart : (ps : List Pauli) (r s : List Bool) (q : ℕ) → length r ≡ length ps → length s ≡ length ps → q < length ps
    → matrix ps r s ≡ pauli_entry (get_or ps q I) (get_or r q false) (get_or s q false) ⊗ matrix (set ps q I) (set r q false) (set s q false)
apart [] r s q e k h = absurd (not-suc-le-zero h)
apart (p ∷ ps) [] s q e k h = absurd (omega arith)
apart (p ∷ ps) (a ∷ r) [] q e k h = absurd (omega arith)
apart (p ∷ ps) (a ∷ r) (b ∷ s) zero e k h = ap (λ (x : Gauss). pauli_entry p a b ⊗ x) (sym (g1-⊗ (matrix ps r s)))
apart (p ∷ ps) (a ∷ r) (b ∷ s) (suc q) e k h =
    ap (λ (x : Gauss). pauli_entry p a b ⊗ x) (apart ps r s q (suc_inj e) (suc_inj k) (le_of_suc-le-suc h))
    ∙ three (pauli_entry p a b) (pauli_entry (get_or ps q I) (get_or r q false) (get_or s q false)) (matrix (set ps q I) (set r q false) (set s q false))

rest : List ℕ → List Pauli → Matrix
rest qs ps r s = matrix (blank I ps qs) (blank false r qs) (blank false s qs)

split : (qs : List ℕ) (ps : List Pauli) (r s : List Bool) → length r ≡ length ps → length s ≡ length ps → Places (length ps) qs
    → matrix ps r s ≡ matrix (at I ps qs) (at false r qs) (at false s qs) ⊗ rest qs ps r s
unfolding rest
split [] ps r s e k h = sym (g1-⊗ (matrix ps r s))
split (q ∷ qs) ps r s e k h =
    let y = matrix (at I ps qs) (at false r qs) (at false s qs) in
    let z = pauli_entry (get_or ps q I) (get_or r q false) (get_or s q false) in
    let w = rest (q ∷ qs) ps r s in
    split qs ps r s e k h.1.1
    ∙ ap (λ (x : Gauss). y ⊗ x)
    (apart (blank I ps qs) (blank false r qs) (blank false s qs) q
    (length-blank false r qs ∙ e ∙ sym (length-blank I ps qs)) (length-blank false s qs ∙ k ∙ sym (length-blank I ps qs))
    (subst (λ (m : ℕ). q < m) (sym (length-blank I ps qs)) h.0)
    ∙ ap (λ (x : Gauss). x ⊗ w)
    (ap (λ (p : Pauli). pauli_entry p (get_or (blank false r qs) q false) (get_or (blank false s qs) q false)) (get_or-blank I I ps q qs h.1.0)
    ∙ ap₂ (λ (a b : Bool). pauli_entry (get_or ps q I) a b) (get_or-blank false false r q qs h.1.0) (get_or-blank false false s q qs h.1.0)))
    ∙ three y z w ∙ sym (⊗-assoc z y w)

-- with other Paulis and other bits at these qubits
split-put : (n : ℕ) (qs : List ℕ) (ps : List Pauli) (r s : List Bool) (xs : List Pauli) (v w : List Bool)
    → length ps ≡ n → length r ≡ n → length s ≡ n → Places n qs
    → length xs ≡ length qs → length v ≡ length qs → length w ≡ length qs
    → matrix (put ps qs xs) (put r qs v) (put s qs w) ≡ matrix xs v w ⊗ rest qs ps r s
unfolding rest
split-put n qs ps r s xs v w e₁ e₂ e₃ h k₁ k₂ k₃ =
    let l₁ : length (put ps qs xs) ≡ n = length-put ps qs xs ∙ e₁ in
    let l₂ : length (put r qs v) ≡ n = length-put r qs v ∙ e₂ in
    let l₃ : length (put s qs w) ≡ n = length-put s qs w ∙ e₃ in
    split qs (put ps qs xs) (put r qs v) (put s qs w) (l₂ ∙ sym l₁) (l₃ ∙ sym l₁) (subst (λ (m : ℕ). Places m qs) (sym l₁) h)
    ∙ ap₂ (λ (x y : Gauss). x ⊗ y)
    (ap (λ (p : List Pauli). matrix p (at false (put r qs v) qs) (at false (put s qs w) qs)) (at-put I ps qs xs (subst (λ (m : ℕ). Places m qs) (sym e₁) h) k₁)
    ∙ ap₂ (λ (a b : List Bool). matrix xs a b) (at-put false r qs v (subst (λ (m : ℕ). Places m qs) (sym e₂) h) k₂) (at-put false s qs w (subst (λ (m : ℕ). Places m qs) (sym e₃) h) k₃))
    (ap (λ (p : List Pauli). matrix p (blank false (put r qs v) qs) (blank false (put s qs w) qs)) (blank-put n I ps qs xs h)
    ∙ ap₂ (λ (a b : List Bool). matrix (blank I ps qs) a b) (blank-put n false r qs v h) (blank-put n false s qs w h))

-- ---- conjugation

scale-right : (k : ℕ) (f : List Bool → Gauss) (x : Gauss) → sum k (λ v. f v ⊗ x) ≡ sum k f ⊗ x
scale-right k f x = sum-ext k (λ v. f v ⊗ x) (λ v. x ⊗ f v) (λ v. ⊗-comm (f v) x) ∙ sum-scale k x f ∙ ⊗-comm x (sum k f)

swap-right : (a b c : Gauss) → (a ⊗ b) ⊗ c ≡ (a ⊗ c) ⊗ b
swap-right a b c = ⊗-assoc a b c ∙ ap (λ (x : Gauss). a ⊗ x) (⊗-comm b c) ∙ sym (⊗-assoc a c b)

pub conjugate-lifted : (n : ℕ) (qs : List ℕ) (g h : Matrix) (ps xs : List Pauli) (z : Gauss) (r s : List Bool)
    → length ps ≡ n → length r ≡ n → length s ≡ n → Places n qs → length xs ≡ length qs
    → times (length qs) (times (length qs) g (matrix (at I ps qs))) h (at false r qs) (at false s qs) ≡ z ⊗ matrix xs (at false r qs) (at false s qs)
    → times n (times n (lift qs g) (matrix ps)) (lift qs h) r s ≡ z ⊗ matrix (put ps qs xs) r s
conjugate-lifted n qs g h ps xs z r s e₁ e₂ e₃ pl kx small =
    let k = length qs in
    let a = at false r qs in
    let b = at false s qs in
    let m = matrix (at I ps qs) in
    let y = rest qs ps r s in
    from-right n qs pl h (times n (lift qs g) (matrix ps)) r s e₃
    ∙ sum-on k (λ w. times n (lift qs g) (matrix ps) r (put s qs w) ⊗ h w b) (λ w. times k g m a w ⊗ h w b ⊗ y)
    (λ w kw. ap (λ (x : Gauss). x ⊗ h w b)
    (from-left n qs pl g (matrix ps) r (put s qs w) e₂
    ∙ sum-on k (λ v. g a v ⊗ matrix ps (put r qs v) (put s qs w)) (λ v. g a v ⊗ m v w ⊗ y)
    (λ v kv. ap (λ (x : Gauss). g a v ⊗ x)
    (ap (λ (p : List Pauli). matrix p (put r qs v) (put s qs w)) (sym (put-at I ps qs))
    ∙ split-put n qs ps r s (at I ps qs) v w e₁ e₂ e₃ pl (length_at I ps qs) kv kw)
    ∙ sym (⊗-assoc (g a v) (m v w) y))
    ∙ scale-right k (λ v. g a v ⊗ m v w) y)
    ∙ swap-right (times k g m a w) y (h w b))
    ∙ scale-right k (λ w. times k g m a w ⊗ h w b) y
    ∙ ap (λ (x : Gauss). x ⊗ y) small
    ∙ ⊗-assoc z (matrix xs a b) y
    ∙ ap (λ (x : Gauss). z ⊗ x)
    (sym (split-put n qs ps r s xs a b e₁ e₂ e₃ pl kx (length_at false r qs) (length_at false s qs))
    ∙ ap₂ (λ (u v : List Bool). matrix (put ps qs xs) u v) (put-at false r qs) (put-at false s qs))
