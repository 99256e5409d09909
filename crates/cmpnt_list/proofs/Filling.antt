-- The matrix of a set's rows, by its bits: a set that passed its tests has the sizes that `matrix::fill` asks for, each bit that it leaves is whether two
-- rows commute, or 0 past the last, and words are what is laid as soon as their bits are (`lay-of`). Assumes nothing.
use mathlib.Core.Path.{◌≡◌, refl, sym, ap, ◌∙◌, subst}
use mathlib.Core.Bool.{Bool, true, false}
use mathlib.Core.List.{List, []}
use Prim.Native.Nat.{ℕ, ◌+◌, ◌*◌, ◌<◌}
use native.Mathlib.Decide.{dec_lt}
use native.Mathlib.Omega.{arith}
use lib.ListN.{length, get_or, get_or-eq_default}
use Rattle.encoding.specs.Limits.{words_of}
use Rattle.encoding.specs.Words.{bit_at}
use Rattle.encoding.specs.Set.{list, Mem, count, Sound}
use Rattle.encoding.proofs.WordLaws.{Fit}
use Rattle.encoding.proofs.Parts.{length-list, get_or-list}
use Rattle.encoding.proofs.BitLaws.{lay-of}
use Rattle.matrix.specs.Matrix.{sized, Filled}
use Rattle.matrix.proofs.Sized.{fitting}
use Rattle.matrix.proofs.Clashes.{agree-is, agree-past}
use Rattle.cmpnt_list.specs.Calls.{laid_matrix, commuting}

pub filled : (n : ℕ) {M : Mem} {o o' : List ℕ} → Sound n M → length o ≡ count M * words_of (count M) → Filled (words_of n) (count M) (words_of (count M)) M.xs M.zs o o'
    → length o' ≡ length o → Fit o' → o' ≡ laid_matrix (count M) (commuting n M)
unfolding bit_at
filled n {M} {o} {o'} g h k e fit =
    lay-of (λ (b : Bool). b) false refl (words_of (count M)) (list (count M) (λ i. list (count M) (λ j. commuting n M i j))) o' (e ∙ h ∙ ap (λ (n : ℕ). n * words_of (count M)) (sym l)) fit
    (λ r a j hr ha hj. go r a j (subst (λ (n : ℕ). r < n) l hr) ha hj (dec_lt (a * 64 + j) (count M)))
  where
    fits : sized (words_of n) (count M) (length M.xs) (length M.zs) (length o) ≡ true
    fits =
        fitting (words_of n) (count M) (length M.xs) (length M.zs) (length o)
        (omega (arith, g.few-qubits)) g.few-rows g.valid.x-long g.valid.z-long h

    l : length (list (count M) (λ i. list (count M) (λ j. commuting n M i j))) ≡ count M
    l = length-list (count M) (λ i. list (count M) (λ j. commuting n M i j))

    at : (r : ℕ) → r < count M → get_or (list (count M) (λ i. list (count M) (λ j. commuting n M i j))) r [] ≡ list (count M) (λ j. commuting n M r j)
    at r h = get_or-list (count M) (λ i. list (count M) (λ j. commuting n M i j)) r [] h

    go : (r a j : ℕ) → r < count M → a < words_of (count M) → j < 64 → Dec (a * 64 + j < count M)
        → bit_at o' (r * words_of (count M) + a) j ≡ get_or (get_or (list (count M) (λ i. list (count M) (λ j. commuting n M i j))) r []) (a * 64 + j) false
    go r a j hr ha hj (yes h) =
        k.done fits r a j hr ha hj
        ∙ agree-is n g r (a * 64 + j) hr h
        ∙ sym (ap (λ (b : List Bool). get_or b (a * 64 + j) false) (at r hr) ∙ get_or-list (count M) (λ j. commuting n M r j) (a * 64 + j) false h)
    go r a j hr ha hj (no h) =
        k.done fits r a j hr ha hj
        ∙ agree-past n g r (a * 64 + j) hr (omega arith)
        ∙ sym (ap (λ (b : List Bool). get_or b (a * 64 + j) false) (at r hr)
        ∙ get_or-eq_default (list (count M) (λ j. commuting n M r j)) false (rw (length-list (count M) (λ j. commuting n M r j)) (omega arith)))
