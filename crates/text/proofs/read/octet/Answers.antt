-- A byte that lacks one of its two digits is none. Assumes nothing.
use Rattle.text.proofs.Kit.{arith}
use Rattle.text.proofs.Places.{octet-short, no-high, no-low, two_digits}
use Rattle.text.proofs.read.octet.Goals as goal
use Rattle.text.proofs.read.octet.Goals.{then-at-s-via-then-at-s, then-at-s-via-else-at-s+then-at-s-2}

pub returns-then-at-s : goal.returns-then-at-s
returns-then-at-s c =
    let a = c.args in
    octet-short a.s.now a.at
    (elim c.then-at-s.branch [
      | then-at-s-via-then-at-s w ↦ omega (arith, w.if-at-s.true)
      | then-at-s-via-else-at-s+then-at-s-2 w ↦ w.if-at-s-2.true
    ])

pub returns-in_err-high : goal.returns-in_err-high
returns-in_err-high c = rw c.from_residual.ensures (no-high _ _ c.if-at-s-2.false c.in_err-high.ensures)

pub returns-in_err-low : goal.returns-in_err-low
returns-in_err-low c =
    let h = c.in_ok-high.ensures in
    rw c.from_residual-in_err-low.ensures (no-low _ _ c.if-at-s-2.false h.0 h.1 c.in_err-low.ensures)

pub returns : goal.returns
returns c =
    let h = c.in_ok-high.ensures in
    let l = c.in_ok-low.ensures in
    two_digits _ _ c.if-at-s-2.false h.0 h.1 l.0 l.1
