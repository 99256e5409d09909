-- What the numbers of a pair and of the running sum are, and that none is made where one on the way to it is no i64: by cases on what fits. Assumes nothing.
use mathlib.Core.Path.{◌≡◌, refl, sym, ap, ap₂, ◌∙◌}
use mathlib.Core.Bool.{Bool, true, false, ◌&&◌}
use lib.IntN.{ℤ, neg_ℤ, ◌+ℤ◌, ◌*ℤ◌, neg_ℤ-neg_ℤ, *ℤ-zero}
use Rattle.pauli.specs.Gauss.{Gauss, ◌⊕◌, ◌⊗◌, conj, g0}
use Rattle.pauli.proofs.IntRing.{neg-mul}
use Rattle.pauli.proofs.Vectors.{⊗-g0}
use Rattle.checked.specs.Range.{within, gauss, both_within, conj_times, conj_fits, pair_fits, pair_of}
use Rattle.checked.specs.Workers.{all, answer, checked_product, checked_sum, plus_checked}

-- six tests, three and three, or four and two
six : (a b s c d t : Bool) → (a && (b && s)) && (c && (d && t)) ≡ (a && (b && (c && d))) && (s && t)
six false b s c d t = refl
six true false s c d t = refl
six true true true c d t = three c
  where
    three : (c : Bool) → c && (d && t) ≡ (c && d) && t
    three true = refl
    three false = refl
six true true false c d t = none (c && d)
  where
    none : (s : Bool) → false ≡ s && false
    none true = refl
    none false = refl

-- a product is made where its real part's three numbers and its imaginary part's three are i64
pub product-six : (u v : Gauss)
    → checked_product u v ≡ answer (all (u.re *ℤ v.re) (u.im *ℤ v.im) (u ⊗ v).re && all (u.re *ℤ v.im) (u.im *ℤ v.re) (u ⊗ v).im) (u ⊗ v)
unfolding checked_product
product-six u v =
    ap (λ (f : Bool). answer f (u ⊗ v)) (sym (six (within (u.re *ℤ v.re)) (within (u.im *ℤ v.im)) (within (u ⊗ v).re) (within (u.re *ℤ v.im)) (within (u.im *ℤ v.re)) (within (u ⊗ v).im)))

-- and the number is the conjugate's product
pub conjugate-is : (u v : Gauss) → conj_times u v ≡ conj u ⊗ v
conjugate-is u v =
    ap₂ gauss (ap (λ (z : ℤ). u.re *ℤ v.re +ℤ z) (sym (ap neg_ℤ (neg-mul u.im v.im) ∙ neg_ℤ-neg_ℤ (u.im *ℤ v.im))))
    (ap (λ (z : ℤ). u.re *ℤ v.im +ℤ z) (sym (neg-mul u.im v.re)))

-- ---- a pair, and the running sum

-- a pair with no block has its first six tested, and adds nothing
pub no_block : (b k : Gauss) → (pair_fits b k g0 ≡ conj_fits b k) × (pair_of b k g0 ≡ g0)
no_block b k = (rw (*ℤ-zero (conj_times b k).re, *ℤ-zero (conj_times b k).im) (plain (conj_fits b k)), ⊗-g0 (conj_times b k))
  where
    plain : (f : Bool) → f && true ≡ f
    plain true = refl
    plain false = refl

pub plus-is : (f g : Bool) (u v : Gauss) → plus_checked (answer f u) (answer g v) ≡ answer ((f && g) && both_within (u ⊕ v)) (u ⊕ v)
unfolding checked_sum
plus-is true true u v = refl
plus-is true false u v = refl
plus-is false g u v = refl
