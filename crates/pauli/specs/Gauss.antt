-- RULES 2.1, "The Pauli matrices decide meaning": the Gaussian integers re + im i, for whole numbers re and im, as entries of the matrices.
-- Assumes nothing.
use Rattle.std.specs.Prelude.{ℕ, zero, suc, ℤ, pos, neg_ℤ, ◌+ℤ◌, ◌-ℤ◌, ◌*ℤ◌}

pub record Gauss : Type 0 where
  pub re : ℤ
  pub im : ℤ

infixl 60 ◌⊕◌
infixl 70 ◌⊗◌
abbrev pub ◌⊕◌ : Gauss → Gauss → Gauss
u ⊕ v = record { re = u.re +ℤ v.re; im = u.im +ℤ v.im }

abbrev pub ◌⊗◌ : Gauss → Gauss → Gauss
u ⊗ v = record { re = u.re *ℤ v.re -ℤ u.im *ℤ v.im; im = u.re *ℤ v.im +ℤ u.im *ℤ v.re }

abbrev pub minus : Gauss → Gauss
minus u = record { re = neg_ℤ u.re; im = neg_ℤ u.im }

-- re - im i
abbrev pub conj : Gauss → Gauss
conj u = record { re = u.re; im = neg_ℤ u.im }

abbrev pub g0 : Gauss
g0 = record { re = pos 0; im = pos 0 }

abbrev pub g1 : Gauss
g1 = record { re = pos 1; im = pos 0 }

abbrev pub gi : Gauss
gi = record { re = pos 0; im = pos 1 }

-- i to the e
abbrev pub ipow : ℕ → Gauss
ipow zero = g1
ipow (suc e) = gi ⊗ ipow e
