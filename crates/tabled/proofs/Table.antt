-- The table: paying by an entry is the product by the chosen pivots, one after another, in their order. For doubling puts the new pivot at the right of
-- every product that was there. Assumes nothing.
use Prim.Native.Nat.{ℕ, suc, ◌+◌, ◌*◌, ◌/◌, ◌%◌, ◌^◌, ◌<◌}
use native.Mathlib.Numerals.{add-one}
use native.Mathlib.Omega.{arith}
use native.Mathlib.Nat.{add_comm, mod-lt, mod-one, mod-eq_of_lt, div-one, div-lt_iff_lt-mul}
use mathlib.Core.Path.{◌≡◌, refl, sym, ap, ◌∙◌, subst}
use mathlib.Core.Logic.{⊎_elim}
use mathlib.Core.Bool.{cond}
use mathlib.Core.List.{List, [], ◌∷◌}
use lib.Dec.{eqb}
use lib.ListN.{length}
use lib.Pow.{pow_pos, shr-shr, mod-pow-add}
use borrow.Author.Tests.{eq-eqb, ne_eqb}
use Rattle.reduction.proofs.Lists.{same?}
use Rattle.tabled.specs.Workers.{paid, doubled, table_of, times}
use Rattle.tabled.proofs.Steps.{paid-none, paid-same, paid-more, doubled-below, doubled-at, doubled-above}

below_of : (j n : ℕ) → n / 2 ^ j < 1 → n < 2 ^ j
below_of j n h = omega (arith, (div-lt_iff_lt-mul (pow_pos j)).0 h)

module _ {R : Type 0} (mul : R → R → R) (assoc : (a b c : R) → mul (mul a b) c ≡ mul a (mul b c)) where
  -- one bit more: the product by the new pivot, if the bit is set
  paid-bit : (j : ℕ) (f : R) (T : ℕ → R) (r : R) (n : ℕ)
      → paid mul (doubled mul (2 ^ j) f T) r (n % 2 ^ suc j) ≡ cond (eqb (n / 2 ^ j % 2) 1) (mul (paid mul T r (n % 2 ^ j)) f) (paid mul T r (n % 2 ^ j))
  paid-bit j f T r n =
      let o = 2 ^ j in
      let T' = doubled mul o f T in
      let m = n % o in
      let b = n / o % 2 in
      let hm : m < o = mod-lt n (pow_pos j) in
      let hb : b < 2 = mod-lt (n / o) (omega arith) in
      let same : paid mul T' r m ≡ paid mul T r m = paid-same mul T T' o (doubled-below mul o f T) r m hm in
      let parts : n % 2 ^ suc j ≡ b * o + m = ap (λ x. n % 2 ^ x) (sym (add_comm 1 j ∙ add-one j)) ∙ mod-pow-add n 1 j in
      ⊎_elim
      (λ e.
      let q : n % 2 ^ suc j ≡ m + o = parts ∙ ap (λ x. x * o + m) e ∙ (omega arith) in
      ap (λ x. paid mul T' r x) q
      ∙ paid-more mul assoc T' f o (pow_pos j) (doubled-at mul o f T (pow_pos j)) r m (λ h. doubled-above mul o f T m h hm ∙ ap (λ x. mul x f) (sym (doubled-below mul o f T m hm)))
      ∙ ap (λ x. mul x f) same ∙ sym (ap (λ x. cond x (mul (paid mul T r m) f) (paid mul T r m)) (eq-eqb b 1 e)))
      (λ h.
      let z : b ≡ 0 = omega arith in
      let q : n % 2 ^ suc j ≡ m = parts ∙ ap (λ x. x * o + m) z ∙ (omega arith) in
      ap (λ x. paid mul T' r x) q ∙ same ∙ sym (ap (λ x. cond x (mul (paid mul T r m) f) (paid mul T r m)) (ne_eqb b 1 h)))
      (same? b 1)

  paid-from : (j : ℕ) (T : ℕ → R) (fs : List R) (r : R) (n : ℕ) → n / 2 ^ j < 2 ^ length fs → paid mul (table_of mul j T fs) r n ≡ times mul (paid mul T r (n % 2 ^ j)) fs (n / 2 ^ j)
  unfolding table_of times
  paid-from j T [] r n h = ap (λ x. paid mul T r x) (sym (mod-eq_of_lt (below_of j n (omega arith))))
  paid-from j T (f ∷ fs) r n h =
      let h' : n / 2 ^ j < 2 ^ suc (length fs) = h in
      let half : n / 2 ^ j / 2 ≡ n / 2 ^ suc j = shr-shr n j 1 ∙ ap (λ x. n / 2 ^ x) (add-one j) in
      paid-from (suc j) (doubled mul (2 ^ j) f T) fs r n (subst (λ x. x < 2 ^ length fs) half (omega arith))
      ∙ ap (λ x. times mul x fs (n / 2 ^ suc j)) (paid-bit j f T r n)
      ∙ ap (λ x. times mul (cond (eqb (n / 2 ^ j % 2) 1) (mul (paid mul T r (n % 2 ^ j)) f) (paid mul T r (n % 2 ^ j))) fs x) (sym half)

  -- Entry n of the table of some pivots is the product of those whose bit is set in n, in their order.
  pub table-entry : (T : ℕ → R) (fs : List R) (r : R) (n : ℕ) → n < 2 ^ length fs → paid mul (table_of mul 0 T fs) r n ≡ times mul r fs n
  table-entry T fs r n h =
      paid-from 0 T fs r n (subst (λ x. x < 2 ^ length fs) (sym (div-one n)) h)
      ∙ ap (λ x. times mul (paid mul T r x) fs (n / 1)) (mod-one n) ∙ ap (λ x. times mul x fs (n / 1)) (paid-none mul T r 0 refl) ∙ ap (λ x. times mul r fs x) (div-one n)
