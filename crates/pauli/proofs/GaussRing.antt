-- The Gaussian integers are a commutative ring: each law is one of real and one of imaginary parts, and these are laws of whole numbers, regrouped.
-- Powers of i go by the exponent mod 4, because the fourth is 1. Assumes nothing.
use mathlib.Core.Path.{◌≡◌, refl, sym, ap, ap₂, ◌∙◌}
use Prim.Native.Nat.{ℕ, zero, suc, ◌+◌, ◌*◌, ◌/◌, ◌%◌}
use native.Mathlib.Nat.{zero-add, suc-add, suc-mul, div-add-mod'}
use native.Mathlib.Omega.{arith}
use lib.IntN.{ℤ, neg_ℤ, ◌+ℤ◌, ◌-ℤ◌, ◌*ℤ◌, +ℤ_idl, +ℤ_idr, +ℤ_comm, neg_ℤ-+ℤ, neg_ℤ-neg_ℤ, zero-*ℤ, *ℤ-zero, *ℤ_comm, *ℤ-one, pos-ne-negsuc, one}
use Rattle.pauli.specs.Gauss.{Gauss, ◌⊕◌, ◌⊗◌, minus, g0, g1, gi, ipow}
use Rattle.pauli.proofs.IntRing.{add4, add-mul, mul-add, neg-mul, sub-mul, mul-sub, mul_assoc}

pub by_parts : {u v : Gauss} → u.re ≡ v.re → u.im ≡ v.im → u ≡ v
by_parts p q = λ i. record { re = p i; im = q i }

pub ⊗-comm : (u v : Gauss) → u ⊗ v ≡ v ⊗ u
⊗-comm u v =
    by_parts (ap₂ (λ (x y : ℤ). x -ℤ y) (*ℤ_comm u.re v.re) (*ℤ_comm u.im v.im))
    (+ℤ_comm (u.re *ℤ v.im) (u.im *ℤ v.re) ∙ ap₂ (λ (x y : ℤ). x +ℤ y) (*ℤ_comm u.im v.re) (*ℤ_comm u.re v.im))

-- (p + q) - (r + s) and (p - q) - (r + s), regrouped
sub4 : (p q r s : ℤ) → (p +ℤ q) -ℤ (r +ℤ s) ≡ (p -ℤ r) +ℤ (q -ℤ s)
sub4 p q r s = ap (λ (x : ℤ). p +ℤ q +ℤ x) (neg_ℤ-+ℤ r s) ∙ add4 p q (neg_ℤ r) (neg_ℤ s)

re4 : (p q r s : ℤ) → (p -ℤ q) -ℤ (r +ℤ s) ≡ (p -ℤ r) -ℤ (s +ℤ q)
re4 p q r s =
    ap (λ (x : ℤ). p -ℤ q +ℤ x) (neg_ℤ-+ℤ r s) ∙ add4 p (neg_ℤ q) (neg_ℤ r) (neg_ℤ s)
    ∙ ap (λ (x : ℤ). p -ℤ r +ℤ x) (+ℤ_comm (neg_ℤ q) (neg_ℤ s) ∙ sym (neg_ℤ-+ℤ s q))

im4 : (p q r s : ℤ) → (p -ℤ q) +ℤ (r +ℤ s) ≡ (p +ℤ r) +ℤ (s -ℤ q)
im4 p q r s = add4 p (neg_ℤ q) r s ∙ ap (λ (x : ℤ). p +ℤ r +ℤ x) (+ℤ_comm (neg_ℤ q) s)

pub ⊗-assoc : (u v w : Gauss) → (u ⊗ v) ⊗ w ≡ u ⊗ (v ⊗ w)
⊗-assoc u v w =
    let a = u.re in let b = u.im in let c = v.re in let d = v.im in let e = w.re in let f = w.im in
    by_parts
    (simp (sub-mul, add-mul, mul-sub, mul-add, mul_assoc) (re4 (a *ℤ (c *ℤ e)) (b *ℤ (d *ℤ e)) (a *ℤ (d *ℤ f)) (b *ℤ (c *ℤ f))))
    (simp (sub-mul, add-mul, mul-sub, mul-add, mul_assoc) (im4 (a *ℤ (c *ℤ f)) (b *ℤ (d *ℤ f)) (a *ℤ (d *ℤ e)) (b *ℤ (c *ℤ e))))

pub ⊕-⊗ : (u v w : Gauss) → (u ⊕ v) ⊗ w ≡ u ⊗ w ⊕ v ⊗ w
⊕-⊗ u v w =
    by_parts (simp add-mul (sub4 (u.re *ℤ w.re) (v.re *ℤ w.re) (u.im *ℤ w.im) (v.im *ℤ w.im)))
    (simp add-mul (add4 (u.re *ℤ w.im) (v.re *ℤ w.im) (u.im *ℤ w.re) (v.im *ℤ w.re)))

pub ⊗-⊕ : (w u v : Gauss) → w ⊗ (u ⊕ v) ≡ w ⊗ u ⊕ w ⊗ v
⊗-⊕ w u v = ⊗-comm w (u ⊕ v) ∙ ⊕-⊗ u v w ∙ ap₂ (λ (x y : Gauss). x ⊕ y) (⊗-comm u w) (⊗-comm v w)

pub ⊗-four : (a b c d : Gauss) → (a ⊗ b) ⊗ (c ⊗ d) ≡ (a ⊗ c) ⊗ (b ⊗ d)
⊗-four a b c d =
    ⊗-assoc a b (c ⊗ d)
    ∙ ap (λ (x : Gauss). a ⊗ x) (sym (⊗-assoc b c d) ∙ ap (λ (x : Gauss). x ⊗ d) (⊗-comm b c) ∙ ⊗-assoc c b d)
    ∙ sym (⊗-assoc a c (b ⊗ d))

pub g1-⊗ : (u : Gauss) → g1 ⊗ u ≡ u
unfolding one
g1-⊗ u = ⊗-comm g1 u ∙ by_parts (ap₂ (λ (x y : ℤ). x -ℤ y) (*ℤ-one u.re) (*ℤ-zero u.im) ∙ +ℤ_idr u.re) (ap₂ (λ (x y : ℤ). x +ℤ y) (*ℤ-zero u.re) (*ℤ-one u.im) ∙ +ℤ_idl u.im)

pub g0-⊗ : (u : Gauss) → g0 ⊗ u ≡ g0
g0-⊗ u = by_parts (ap₂ (λ (x y : ℤ). x -ℤ y) (zero-*ℤ u.re) (zero-*ℤ u.im)) (ap₂ (λ (x y : ℤ). x +ℤ y) (zero-*ℤ u.im) (zero-*ℤ u.re))

-- the sign changed is i to the 2 times
minus-⊗ : (u v : Gauss) → minus u ⊗ v ≡ minus (u ⊗ v)
minus-⊗ u v =
    by_parts
    (ap₂ (λ (x y : ℤ). x -ℤ y) (neg-mul u.re v.re) (neg-mul u.im v.im) ∙ sym (neg_ℤ-+ℤ (u.re *ℤ v.re) (neg_ℤ (u.im *ℤ v.im))))
    (ap₂ (λ (x y : ℤ). x +ℤ y) (neg-mul u.re v.im) (neg-mul u.im v.re) ∙ sym (neg_ℤ-+ℤ (u.re *ℤ v.im) (u.im *ℤ v.re)))

pub minus_is : (u : Gauss) → minus u ≡ ipow 2 ⊗ u
minus_is u = ap minus (sym (g1-⊗ u)) ∙ sym (minus-⊗ g1 u)

pub minus_minus : (u : Gauss) → minus (minus u) ≡ u
minus_minus u = by_parts (neg_ℤ-neg_ℤ u.re) (neg_ℤ-neg_ℤ u.im)

pub ipow-add : (m n : ℕ) → ipow (m + n) ≡ ipow m ⊗ ipow n
ipow-add zero n = ap ipow (zero-add n) ∙ sym (g1-⊗ (ipow n))
ipow-add (suc m) n = ap ipow (suc-add m n) ∙ ap (λ (x : Gauss). gi ⊗ x) (ipow-add m n) ∙ sym (⊗-assoc gi (ipow m) (ipow n))

-- ---- powers of i go by the exponent mod 4, and none is its own negation

ipow-fours : (q : ℕ) → ipow (q * 4) ≡ g1
ipow-fours zero = refl
ipow-fours (suc q) = ap ipow (suc-mul q 4) ∙ ipow-add (q * 4) 4 ∙ ap (λ (x : Gauss). x ⊗ ipow 4) (ipow-fours q)

pub ipow-low : (m : ℕ) → ipow m ≡ ipow (m % 4)
ipow-low m =
    ap ipow (sym (div-add-mod' m 4)) ∙ ipow-add (m / 4 * 4) (m % 4) ∙ ap (λ (x : Gauss). x ⊗ ipow (m % 4)) (ipow-fours (m / 4)) ∙ g1-⊗ (ipow (m % 4))

pub ipow-mod : (m n : ℕ) → m % 4 ≡ n % 4 → ipow m ≡ ipow n
ipow-mod m n e = ipow-low m ∙ ap ipow e ∙ sym (ipow-low n)

pub never : (k : ℕ) → ipow k ≡ ipow (suc (suc k)) → ⊥
never zero e = pos-ne-negsuc 1 0 (ap (λ (u : Gauss). u.re) e)
never (suc zero) e = pos-ne-negsuc 1 0 (ap (λ (u : Gauss). u.im) e)
never (suc (suc k)) e = never k (sym (e ∙ ipow-mod (suc (suc (suc (suc k)))) k (omega arith)))
