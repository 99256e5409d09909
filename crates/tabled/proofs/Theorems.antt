-- The theorems on the reduction rule done late: for every capacity, order, lists and content of the table it ends as the rule does. A column meets the
-- rule's column, and so do columns one after another. Assumes nothing.
use Prim.Native.Nat.{ℕ, ◌<◌, ◌≤◌}
use native.Mathlib.Omega.{arith}
use mathlib.Core.Path.{◌≡◌, ◌∙◌}
use mathlib.Core.Bool.{Bool}
use mathlib.Core.List.{List, []}
use lib.ListN.{length}
use Rattle.reduction.specs.Rule.{reduce}
use Rattle.reduction.specs.Capacity.{done, capped}
use Rattle.reduction.specs.Workers.{through, column_c}
use Rattle.reduction.specs.Laws.{Laws}
use Rattle.pauli.specs.Row.{Row, mul_row, bit_row}
use Rattle.reduction.proofs.PauliRows.{rows-laws}
use Rattle.reduction.proofs.Stop.{stops-is-capped, run_fits}
use Rattle.tabled.specs.Workers.{Meets, Within, Lazy, through_l, settle, settled, column_in, lazily, paid}
use Rattle.tabled.proofs.Meets.{meets-settled, meets-through}
use Rattle.tabled.proofs.Columns.{meets-column_in}

module _ {R : Type 0} {bit : R → ℕ → Bool} {mul : R → R → R} {ph : R → ℕ} {expo : R → R → ℕ} {N : ℕ} (laws : Laws bit mul ph expo N) (capacity G : ℕ) (some-pivots : 0 < G)
    (listed extra : List ℕ) where
  -- Columns done late, from a state of a block that has at most G pivots, are the rule's columns on what was settled.
  pub lazy-columns : (order : List ℕ) (s : Lazy R) → Within G s
      → Meets mul (Within G) (through_l (column_in bit mul capacity G listed extra) order s) (through (column_c bit mul capacity listed extra) order (settle mul s))
  lazy-columns order s w =
      meets-through mul (column_in bit mul capacity G listed extra) (column_c bit mul capacity listed extra) (λ c s' w'. meets-column_in laws capacity listed extra G c s' some-pivots w') order s w

  -- The rule done late, settled, ends as `capped` says: with the rule's run, or full, with the entries that fit and the rows after these.
  pub lazy-is-capped : (order : List ℕ) (T σ : ℕ → R) → settled mul (lazily bit mul capacity G order listed extra T σ) ≡ capped bit mul capacity order listed extra σ
  unfolding lazily settle paid
  lazy-is-capped order T σ =
      meets-settled mul (lazy-columns order (record { rows = σ; owed = λ _. 0; table = T; pivots = 0; log = []; t = 0 }) (record { few = omega arith; small = λ k. omega arith }))
      ∙ stops-is-capped bit mul capacity listed extra order σ

  -- Where what the rule needs fits, that is the rule's run.
  pub lazy-is-rule : (order : List ℕ) (T σ : ℕ → R) → let r = reduce bit mul order listed extra σ in
      (length r.log ≤ capacity → settled mul (lazily bit mul capacity G order listed extra T σ) ≡ done r)
  lazy-is-rule order T σ h = lazy-is-capped order T σ ∙ run_fits bit mul capacity order listed extra σ h

-- of Pauli rows on n qubits
pub rows-late : (n capacity G : ℕ) → 0 < G → (order listed extra : List ℕ) (T σ : ℕ → Row)
    → settled (mul_row n) (lazily (bit_row n) (mul_row n) capacity G order listed extra T σ) ≡ capped (bit_row n) (mul_row n) capacity order listed extra σ
rows-late n capacity G h order listed extra T σ = lazy-is-capped (rows-laws n) capacity G h listed extra order T σ
