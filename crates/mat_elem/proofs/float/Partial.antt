-- The partial sums: for finite coefficients each has the bits of the one by products, and none is -0. Assumes nothing.
-- By induction over the terms: +0 absorbs the sign of a zero that is added, and a sum of two numbers that are not both -0 is not -0.
use Rattle.std.proofs.Common.{◌≡◌, ℕ, zero, suc, ◌<◌, Bool, true, false, T, List, get_or, sym, refl, ap, ◌∙◌, subst, ap₂, true≢false, arith}
use lib.Ieee.{Float, nan, inf, fin, binary64, add, fits}
use lib.Ieee.Scale.{finite}
use lib.Ieee.Fits.{add-fits}
use Rattle.mat_elem.specs.Terms.{in_block}
use Rattle.mat_elem.specs.Sums.{exponent_of, step_if, sum_over}
use Rattle.mat_elem.specs.float.Sums.{complex, plus, term_at, plus_zero, sum_to}
use Rattle.mat_elem.specs.float.Product.{not_minus_zero, product_at, product_to}
use Rattle.checked.specs.declared.Complex.{Complex}
use Rattle.mat_elem.proofs.float.Zero.{Near, same, zeros, near_add}
use Rattle.mat_elem.proofs.float.Never.{add-live}
use Rattle.mat_elem.proofs.float.Times.{Plain, times-near, turned_plain}

-- an f64 that is not -0, as each partial sum is
pub record Live (x : Float) : Type 0 where
  pub is-f64 : T (fits binary64 x)
  pub not-minus : T (not_minus_zero x)

zero-live : Live plus_zero
unfolding fits
zero-live = record { is-f64 = tt; not-minus = tt }

-- what is not finite stays as it is
pub add-past : (x y : Float) → finite x ≡ false → T (finite y) → add binary64 x y ≡ x
unfolding add
add-past nan y e h = refl
add-past (inf s) (fin t n d) e h = refl
add-past (fin s m d) y e h = absurd (true≢false e)
add-past (inf s) nan e h = elim h [ ]
add-past (inf s) (inf _) e h = elim h [ ]

live-add : (x y : Float) → Live x → Plain y → Live (add binary64 x y)
live-add x y l p = record { is-f64 = add-fits binary64 x y; not-minus = go (finite x) refl }
  where
    go : (b : Bool) → finite x ≡ b → T (not_minus_zero (add binary64 x y))
    go true e = add-live binary64 x y (subst T (sym e) tt) p.is_finite l.is-f64 p.is-f64 l.not-minus
    go false e = subst (λ (z : Float). T (not_minus_zero z)) (sym (add-past x y e p.is_finite)) l.not-minus

near-finite : {y z : Float} → Near y z → T (finite z) → T (finite y)
near-finite same h = h
near-finite zeros h = tt

same_add : (x y z : Float) → Live x → Near y z → Plain z → add binary64 x y ≡ add binary64 x z
same_add x y z l n p = go (finite x) refl
  where
    go : (b : Bool) → finite x ≡ b → add binary64 x y ≡ add binary64 x z
    go true e = near_add binary64 x (subst T (sym e) tt) l.not-minus n
    go false e = add-past x y e (near-finite n p.is_finite) ∙ sym (add-past x z e p.is_finite)

-- ---- the partial sums
abbrev pub BothLive : Complex Float → Type 0
BothLive c = Live c.re × Live c.im

module _ (z : ℕ → Bool) (xs zs : List ℕ) (re im : List Float) (t ket : ℕ) where
  pub same-sums : (n : ℕ) → ((k : ℕ) → k < n → Plain (get_or re k nan) × Plain (get_or im k nan)) → (product_to z xs zs re im t ket n ≡ sum_to xs zs re im t ket n) × BothLive (sum_to xs zs re im t ket n)
  unfolding sum_over
  same-sums zero h = (refl, (zero-live, zero-live))
  same-sums (suc n) h =
      let ih = same-sums n (λ k l. h k (omega arith)) in
      let w = h n (omega arith) in
      let k = exponent_of (get_or xs n 0) (get_or zs n 0) ket in
      let a = get_or re n nan in
      let b = get_or im n nan in
      let tn = times-near (z k) a b w.0 w.1 k in
      let tp = turned_plain a b w.0 w.1 k in
      go (in_block xs t n) (product_at z xs zs re im ket n) (term_at xs zs re im ket n) tn.0 tn.1 tp.0 tp.1 _ _ ih.0 ih.1
    where
      go : (at : Bool) (c d : Complex Float) → Near c.re d.re → Near c.im d.im → Plain d.re → Plain d.im → (x y : Complex Float) → x ≡ y → BothLive y
          → (step_if at (λ (s : Complex Float). plus s c) x ≡ step_if at (λ (s : Complex Float). plus s d) y) × BothLive (step_if at (λ (s : Complex Float). plus s d) y)
      go false c d p q r s x y e l = (e, l)
      go true c d p q r s x y e l = (
        ap (λ (u : Complex Float). plus u c) e ∙ ap₂ complex (same_add y.re c.re d.re l.0 p r) (same_add y.im c.im d.im l.1 q s),
        (live-add y.re d.re l.0 r, live-add y.im d.im l.1 s),
      )
