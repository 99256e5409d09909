-- RULES 5, "The reduction rule", and 6.4: a reducer whose log has room for `capacity` entries. Refusal 8 is "given exactly when the rule
-- needs more entries than the capacity .. Rows and log then stand after that many entries". Assumes nothing.
use Rattle.std.specs.Prelude.{ℕ, Bool, cond, List, leb, length, take}
use Rattle.reduction.specs.Rule.{Entry, Run, reduce}
use Rattle.reduction.specs.Replay.{replay}

-- What such a reducer ends with: done, with the rule's run; or full, with the entries that fit and the rows after these.
pub data Reduced (R : Type 0) : Type 0 where
  done : Run R → Reduced R
  full : List Entry → (ℕ → R) → Reduced R

module _ {R : Type 0} (bit : R → ℕ → Bool) (mul : R → R → R) where
  unfoldable pub capped : ℕ → List ℕ → List ℕ → List ℕ → (ℕ → R) → Reduced R
  capped capacity order listed extra σ =
      let s = reduce bit mul order listed extra σ in
      let entries = take capacity s.log in
      cond (leb (length s.log) capacity) (done s) (full entries (replay mul σ entries))
