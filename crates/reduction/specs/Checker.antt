-- RULES 7, "The replay checker": the entry test, the first bad entry, the first differing row, the verdict. Assumes nothing.
use Rattle.std.specs.Prelude.{ℕ, zero, suc, Bool, true, false, cond, not, ◌&&◌, List, [], ◌∷◌, ◌++◌, eqb}
use Rattle.std.proofs.Math.Option.{Option, none, some}
use Rattle.reduction.specs.Lists.{has}
use Rattle.reduction.specs.Rule.{Entry}
use Rattle.reduction.specs.Replay.{replay}
use Rattle.reduction.specs.Form.{reduced}

-- An entry that is not bad. Bad are, by RULES 7.3, equal numbers, a target neither listed nor extra, a source not listed. That a number of m or more makes one
-- follows where refusal 6 was passed, so that the lists hold no such number (`too-large-bad` of proofs/Entries.antt).
unfoldable pub good : List ℕ → List ℕ → Entry → Bool
good listed extra e = not (eqb e.target e.source) && has e.target (listed ++ extra) && has e.source listed

-- RULES 7.4, "the number of the first bad entry, counted in pairs from 0" (here from i)
unfoldable pub first_bad : List ℕ → List ℕ → ℕ → List Entry → Option ℕ
first_bad listed extra i [] = none
first_bad listed extra i (e ∷ es) = cond (good listed extra e) (first_bad listed extra (suc i) es) (some i)

-- RULES 7.5, the first row that differs: the first of m rows, from row i on, that is not alike. `alike` is the test of two rows; of Pauli rows
-- it is `same_row`.
unfoldable pub first_diff : {R : Type 0} → (R → R → Bool) → (ℕ → R) → (ℕ → R) → ℕ → ℕ → Option ℕ
first_diff alike σ τ i zero = none
first_diff alike σ τ i (suc m) = cond (alike (σ i) (τ i)) (first_diff alike σ τ (suc i) m) (some i)

pub data Verdict : Type 0 where
  bad_entry : ℕ → Verdict
  differs : ℕ → Verdict
  not_reduced : Verdict
  accepted : Verdict

-- RULES 7.4 to 7.7: the first bad entry, else the first row that differs, else not reduced, else yes
unfoldable pub verdict_by : Option ℕ → Option ℕ → Bool → Verdict
verdict_by (some i) d r = bad_entry i
verdict_by none (some k) r = differs k
verdict_by none none false = not_reduced
verdict_by none none true = accepted

-- The verdict on m rows: the starting rows σ, the whole log, the claimed rows.
module _ {R : Type 0} (bit : R → ℕ → Bool) (mul : R → R → R) (alike : R → R → Bool) where
  unfoldable pub verdict : ℕ → List ℕ → List ℕ → List ℕ → (ℕ → R) → List Entry → (ℕ → R) → Verdict
  verdict m order listed extra σ log claimed =
      let τ = replay mul σ log in
      verdict_by (first_bad listed extra 0 log) (first_diff alike τ claimed 0 m) (reduced bit order listed extra τ)

-- What the working rows hold at the end: RULES 7.4, at a bad entry "unchanged"; else 7.5, "the full replay".
unfoldable pub working_by : {R : Type 0} → (R → R → R) → Option ℕ → (ℕ → R) → List Entry → ℕ → R
working_by mul (some i) σ log = σ
working_by mul none σ log = replay mul σ log

unfoldable pub working : {R : Type 0} → (R → R → R) → List ℕ → List ℕ → (ℕ → R) → List Entry → ℕ → R
working mul listed extra σ log = working_by mul (first_bad listed extra 0 log) σ log
