use Rattle.late.proofs.View.{small-start}
use Rattle.terms.proofs.Columns.{past_row, in_row}
use native.Mathlib.Omega.{arith}
use mathlib.Core.Path.{◌∙◌}
use Rattle.terms.proofs.rows.row_bit.Goals as goal

pub returns-then-w-q : goal.returns-then-w-q
returns-then-w-q c =
    let a = c.args in
    past_row a.w a.k.0 a.q.0 a.x.now (omega arith)

pub overflow_mul-k : goal.overflow_mul-k
overflow_mul-k c =
    let a = c.args in
    omega (arith, small-start a.k.0 a.w c.requires.0 c.requires.1)

pub overflow_mul-k-2 : goal.overflow_mul-k-2
overflow_mul-k-2 c =
    let a = c.args in
    omega (arith, small-start a.k.0 a.w c.requires.0 c.requires.1)

pub overflow_add-k : goal.overflow_add-k
overflow_add-k c =
    let a = c.args in
    omega (arith, small-start a.k.0 a.w c.requires.0 c.requires.1)

pub returns : goal.returns
returns c =
    let a = c.args in
    c.bit_in.ensures ∙ in_row a.w a.k.0 a.q.0 a.x.now (omega arith)
