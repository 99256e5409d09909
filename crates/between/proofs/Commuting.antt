-- The commutation matrix and the number that a product returns: bit j of row i is set exactly when the number that the product of rows i and j gives is
-- even, whichever call multiplies them. It follows from the contracts: the bit says whether the rows' matrices commute, and so does the number's
-- parity. Assumes nothing.
use mathlib.Core.Path.{◌≡◌, sym, ap₂, ◌∙◌, subst}
use mathlib.Core.Logic.{◌↔◌}
use mathlib.Core.Bool.{true}
use mathlib.Core.List.{List}
use Prim.Native.Nat.{ℕ, ◌+◌, ◌*◌, ◌/◌, ◌%◌, ◌<◌}
use borrow.Author.Tests.{eqb-true, eq-eqb}
use lib.Dec.{eqb}
use lib.ListN.{get_or}
use Rattle.pauli.specs.Rows.{clashes_of, commute}
use Rattle.pauli.proofs.Meaning.{commute-iff}
use Rattle.encoding.specs.Limits.{words_of}
use Rattle.encoding.specs.Words.{bit_at}
use Rattle.encoding.specs.Set.{Mem, count, rows_of}
use Rattle.std.specs.Prelude.{Ok}
use Rattle.cmpnt_list.specs.Calls.{CompatibilityMatrix, MulPairwise}
use Rattle.cmpnt_list.proofs.Tests.{Words64}
use Rattle.cmpnt_list.proofs.Meaning.{matrix-meaning, pairwise-number}
use Rattle.terms.specs.Calls.{Multiplies}
use Rattle.terms.proofs.Meaning.{imul-number}

module _ (n : ℕ) {M : Mem} {out out' : List ℕ} (c : CompatibilityMatrix n M out out' (Ok tt)) (i j : ℕ) (hi : i < count M) (hj : j < count M) where
  matrix-number : (d : ℕ) → d ≡ clashes_of n (rows_of n M i) (rows_of n M j) → (bit_at out' (i * words_of (count M) + j / 64) (j % 64) ≡ true) ↔ (d % 2 ≡ 0)
  unfolding commute
  matrix-number d e =
      let f = matrix-meaning n c i j hi hj in
      let k = commute-iff n (rows_of n M i) (rows_of n M j) in (
        λ h. eqb-true (d % 2) 0 (subst (λ (q : ℕ). eqb (q % 2) 0 ≡ true) (sym e) (k.0 (f.0 h))),
        λ h. f.1 (k.1 (subst (λ (q : ℕ). eqb (q % 2) 0 ≡ true) e (eq-eqb (d % 2) 0 h))),
      )

  -- row i by row j in place
  pub matrix-imul : {M' : Mem} {d : ℕ} → Multiplies n i j M M' (Ok d) → (bit_at out' (i * words_of (count M) + j / 64) (j % 64) ≡ true) ↔ (d % 2 ≡ 0)
  matrix-imul {M'} {d} p = matrix-number d (imul-number n i j p)

  -- rows i and j as row k of the left set and of the right one
  pub matrix-pairwise : {L R O O' : Mem} {cs cs' : List ℕ} → Words64 L → Words64 R → MulPairwise n L R O O' cs cs' (Ok tt) → (k : ℕ) → k < count L
      → rows_of n L k ≡ rows_of n M i → rows_of n R k ≡ rows_of n M j → (bit_at out' (i * words_of (count M) + j / 64) (j % 64) ≡ true) ↔ (get_or cs' k 0 % 2 ≡ 0)
  matrix-pairwise {L} {R} {O} {O'} {cs} {cs'} wl wr p k h l r = matrix-number (get_or cs' k 0) (pairwise-number n wl wr p k h ∙ ap₂ (clashes_of n) l r)
