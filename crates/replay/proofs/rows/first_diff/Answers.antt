-- Rows i differ, and i is the answer (`diff-here`), or they are the same and are passed over (`diff-next`).
use mathlib.Core.Path.{sym, ◌∙◌}
use Prim.Native.Nat.{◌+◌, ◌-◌}
use native.Mathlib.Omega.{arith}
use Rattle.pauli.specs.Row.{same_row}
use Rattle.encoding.specs.Set.{set_of, rows_of}
use Rattle.replay.proofs.Alike.{diff-here, diff-next, diff-end}
use Rattle.replay.proofs.rows.first_diff.Goals as goal

pub returns-then-not-same_row : goal.returns-then-not-same_row
returns-then-not-same_row c =
    let a = c.args in
    let l = c.loop-i in
    let σ = rows_of a.set.now.n (set_of a.set.now) in
    let τ = rows_of a.set.now.n (set_of a.claimed.now) in
    let m = a.set.now.m in
    let s = c.same_row in
    diff-here (same_row a.set.now.n) σ τ m l.i (m - l.i) (omega arith) (omega arith) (sym c.if-not-same_row.true ∙ s.ensures) ∙ l.invariant

pub loop-i-preserved : goal.loop-i-preserved
loop-i-preserved c =
    let a = c.args in
    let l = c.loop-i in
    let σ = rows_of a.set.now.n (set_of a.set.now) in
    let τ = rows_of a.set.now.n (set_of a.claimed.now) in
    let m = a.set.now.m in
    let s = c.same_row in
    diff-next (same_row a.set.now.n) σ τ m l.i (m - l.i) (omega arith) (sym c.if-not-same_row.false ∙ s.ensures) (m - (l.i + 1)) (omega arith) ∙ l.invariant

pub returns : goal.returns
returns c =
    let a = c.args in
    let l = c.loop-i in
    let σ = rows_of a.set.now.n (set_of a.set.now) in
    let τ = rows_of a.set.now.n (set_of a.claimed.now) in
    let m = a.set.now.m in
    diff-end (same_row a.set.now.n) σ τ m l.i (m - l.i) (omega arith) (omega arith) ∙ l.invariant
