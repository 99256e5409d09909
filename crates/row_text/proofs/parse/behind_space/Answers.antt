use Rattle.row_text.proofs.Kit.{ℕ, sym, ap, ◌∙◌, arith}
use Rattle.row_text.specs.Workers.{past, left}
use Rattle.row_text.proofs.Scanning.{at-start, at-space, space-within, no-space}
use Rattle.row_text.proofs.parse.behind_space.Goals as goal

pub returns-then-at-eq0 : goal.returns-then-at-eq0
returns-then-at-eq0 c =
    let a = c.args in
    (at-start a.s.now ∙ ap (λ (k : ℕ). past (left k a.s.now)) (sym c.if-at-eq0.true), omega arith)

pub returns-then-starts : goal.returns-then-starts
returns-then-starts c =
    let a = c.args in
    let e = sym c.if-starts.true ∙ c.starts.ensures in
    (at-space a.at a.s.now c.if-at-eq0.false e, omega (arith, space-within a.at a.s.now e))

pub returns-else-starts : goal.returns-else-starts
returns-else-starts c =
    let a = c.args in
    no-space a.at a.s.now c.if-at-eq0.false (sym c.if-starts.false ∙ c.starts.ensures)
