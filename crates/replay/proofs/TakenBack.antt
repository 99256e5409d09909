-- Entries taken back in memory: the leaf multiplies row a by the inverse of row b, where both are rows of the set and differ; so the entries, the last one
-- first, leave the rows walked back. Assumes nothing.
use mathlib.Core.Path.{◌≡◌, refl, sym, ap, ◌∙◌, subst, fun_ext}
use mathlib.Core.Bool.{cond}
use mathlib.Core.List.{List, [], ◌∷◌}
use Prim.Native.Nat.{ℕ, ◌+◌, ◌*◌, ◌/◌, ◌%◌, ◌<◌}
use native.Mathlib.Omega.{arith}
use borrow.Author.Tests.{eqb-true, eqb-false, eq-eqb, ne_eqb}
use lib.Dec.{eqb}
use lib.ListN.{length, get_or, drop}
use Rattle.pauli.specs.Row.{Row, mul_row}
use Rattle.pauli.proofs.Bools.{cond_ind}
use Rattle.pauli.proofs.RowLaws.{row-eq}
use Rattle.encoding.specs.Limits.{words_of}
use Rattle.encoding.specs.Set.{Mem, mem_of, count, exponent_at, with_exponent, rows_held, rows_of, lay, Valid, Sound}
use Rattle.encoding.proofs.Memory.{laid}
use Rattle.encoding.proofs.Exponents.{laid-long, laid-with, exponent_same, exponent-other, exponent_small}
use Rattle.reduction.specs.Lists.{All}
use Rattle.reduction.specs.Rule.{Entry, mul_at}
use Rattle.reduction.specs.Log.{pairs}
use Rattle.reduction.proofs.Log.{pairs-at, pairs_end}
use Rattle.terms.specs.Workers.{mul_in}
use Rattle.terms.proofs.RowView.{mul-view}
use Rattle.replay.specs.Undo.{mul_inverse, undo}
use Rattle.replay.specs.Workers.{turned, mul_back_in, mem_taken_back}
use Rattle.replay.proofs.Inverse.{inverse-after}
use Rattle.replay.proofs.Back.{Apart}

-- memory that holds the rows σ, as many as M
pub record Backed (n : ℕ) (M : Mem) (σ : ℕ → Row) (M' : Mem) : Type 0 where
  pub sound : Sound n M'
  pub many : count M' ≡ count M
  pub rows_are : rows_of n M' ≡ σ

-- ---- one entry

module _ {n : ℕ} {M : Mem} (s : Sound n M) (a b : ℕ) (ha : a < count M) (hb : b < count M) (ne : a ≡ b → ⊥) where
  N : Mem
  N = mul_in n a b M

  many : count N ≡ count M
  unfolding N
  many = (mul-view s a b ha hb).keeps.many

  value : ℕ
  value = (exponent_at N.es a + exponent_at N.es b + exponent_at N.es b) % 4

  N' : Mem
  N' = mem_of (count N) N.xs N.zs (with_exponent N.es a value)

  -- the rows after the product
  at : (k : ℕ) → rows_of n N k ≡ mul_at (mul_row n) (rows_of n M) a b k
  unfolding N
  at k = ap (λ (σ : ℕ → Row). σ k) (mul-view s a b ha hb).rows_are

  at_a : rows_of n N a ≡ mul_row n (rows_of n M a) (rows_of n M b)
  unfolding mul_at
  at_a = at a ∙ ap (λ t. cond t (mul_row n (rows_of n M a) (rows_of n M b)) (rows_of n M a)) (eq-eqb a a refl)

  at_other : (k : ℕ) → (k ≡ a → ⊥) → rows_of n N k ≡ rows_of n M k
  unfolding mul_at
  at_other k other = at k ∙ ap (λ t. cond t (mul_row n (rows_of n M a) (rows_of n M b)) (rows_of n M k)) (ne_eqb k a other)

  exponent-a : exponent_at N.es a ≡ (mul_row n (rows_of n M a) (rows_of n M b)).p
  unfolding rows_held
  exponent-a = ap (λ (r : Row). r.p) at_a

  exponent-b : exponent_at N.es b ≡ (rows_of n M b).p
  unfolding rows_held
  exponent-b = ap (λ (r : Row). r.p) (at_other b (λ e. ne (sym e)))

  small_b : (rows_of n M b).p < 4
  unfolding rows_held
  small_b = exponent_small M.es b

  new : value ≡ ((mul_row n (rows_of n M a) (rows_of n M b)).p + 2 * (rows_of n M b).p) % 4
  unfolding value
  new = omega (arith, exponent-a, exponent-b)

  a_in : a < count N
  a_in = subst (λ k. a < k) (sym many) ha

  valid : Valid n (words_of n) N
  unfolding N
  valid = (mul-view s a b ha hb).keeps.sound.valid

  low : value < 4
  unfolding value
  low = omega arith

  written : exponent_at (with_exponent N.es a value) a ≡ value
  written = exponent_same N.es a value (laid-long (count N) valid.exponents) a_in low

  rows_back : rows_of n N' ≡ mul_at (mul_inverse n) (rows_of n M) a b
  unfolding mul_at rows_held N'
  rows_back =
      fun_ext (λ k. cond_ind (λ (r : Row). rows_of n N' k ≡ r) (eqb k a)
      (λ t. subst (λ (j : ℕ). rows_of n N' j ≡ mul_inverse n (rows_of n M a) (rows_of n M b)) (sym (eqb-true k a t)) here)
      (λ t. there k (eqb-false k a t)))
    where
      here : rows_of n N' a ≡ mul_inverse n (rows_of n M a) (rows_of n M b)
      here =
          row-eq (ap (λ (r : Row). r.ps) at_a) (written ∙ new)
          ∙ sym (inverse-after n (rows_of n M a) (rows_of n M b) small_b)

      there : (k : ℕ) → (k ≡ a → ⊥) → rows_of n N' k ≡ rows_of n M k
      there k other = row-eq refl (exponent-other N.es a value k other) ∙ at_other k other

  sound_back : Sound n N'
  unfolding N' N
  sound_back =
      let h = (mul-view s a b ha hb).keeps.sound in
      record {
        valid =
            record {
              wide = valid.wide;
              x-long = valid.x-long;
              z-long = valid.z-long;
              packed = valid.packed;
              exponents = laid-with N.es a value (count N) a_in valid.exponents;
            };
        few-qubits = h.few-qubits;
        few-rows = h.few-rows;
      }

  pub back-view : Backed n M (mul_at (mul_inverse n) (rows_of n M) a b) (mul_back_in n a b M)
  unfolding mul_back_in turned N' N value
  back-view = record { sound = sound_back; many = many; rows_are = rows_back }

-- ---- all of them

pub taken_back : (n : ℕ) (M : Mem) (es : List Entry) → Sound n M → All (Apart (count M)) es → Backed n M (undo n (rows_of n M) es) (mem_taken_back n es M)
unfolding undo mem_taken_back
taken_back n M [] s h = record { sound = s; many = refl; rows_are = refl }
taken_back n M (e ∷ es) s h =
    let r = taken_back n M es s h.1 in
    let a = e.target in
    let b = e.source in
    let v = back-view r.sound a b (subst (λ k. a < k) (sym r.many) h.0.target-in) (subst (λ k. b < k) (sym r.many) h.0.source_in) h.0.other in
    record { sound = v.sound; many = v.many ∙ r.many; rows_are = v.rows_are ∙ ap (λ σ. mul_at (mul_inverse n) σ a b) r.rows_are }

pub taken-laid : (n : ℕ) (M : Mem) (es : List Entry) → Sound n M → All (Apart (count M)) es → mem_taken_back n es M ≡ lay n (count M) (undo n (rows_of n M) es)
taken-laid n M es s h =
    let r = taken_back n M es s h in
    laid n (words_of n) r.sound.valid r.rows_are ∙ ap (λ k. lay n k (undo n (rows_of n M) es)) r.many

-- ---- the loop: the entries from i on are taken back

module _ (n : ℕ) (l : List ℕ) (M₀ : Mem) where
  pub taken_none : M₀ ≡ mem_taken_back n (drop (length l / 2) (pairs l)) M₀
  unfolding mem_taken_back
  taken_none = sym (ap (λ es. mem_taken_back n es M₀) (pairs_end (length l / 2) l (omega arith)))

  pub taken_more : (i : ℕ) {M M' : Mem} → i < length l / 2 → M ≡ mem_taken_back n (drop (i + 1) (pairs l)) M₀ → M' ≡ mul_back_in n (get_or l (i + i) 0) (get_or l (i + i + 1) 0) M → M' ≡ mem_taken_back n (drop i (pairs l)) M₀
  unfolding mem_taken_back
  taken_more i h e f =
      f ∙ ap (mul_back_in n (get_or l (i + i) 0) (get_or l (i + i + 1) 0)) e ∙ sym (ap (λ es. mem_taken_back n es M₀) (pairs-at l i h))
