-- `late::clear::owe` meets its contract: what was chosen is written. The byte and both units were read before anything was written, so where b does not
-- hold they are written back as they were. Assumes nothing.
use native.Mathlib.Omega.{arith}
use mathlib.Core.Path.{ap, ap₂}
use Prim.Native.Nat.{ℕ, ◌+◌}
use mathlib.Core.Bool.{false}
use lib.ListN.{get_or, set, length-set}
use Rattle.late.proofs.clear.owe.Goals as goal

pub bounds-log-m-4 : goal.bounds-log-m-4
bounds-log-m-4 c = simp length-set (omega arith)

pub returns : goal.returns
returns c =
    let a = c.args in
    let m = a.s.entries + a.s.entries in
    record {
      owed-is = ap (λ (v : ℕ). set a.owed.now a.k (get_or a.owed.now a.k 0 + v)) c.choose.ensures;
      log_is = ap₂ (λ (u v : ℕ). set (set a.log.now m u) (m + 1) v) c.choose-2.ensures c.choose-3.ensures;
      at-is = ap (λ (e : ℕ). record { full = false; entries = e; t = a.s.t; g = a.s.g }) c.choose-4.ensures;
    }
