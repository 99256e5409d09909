-- A return for each rung: the limit first, then the length.
use Rattle.std.proofs.Common.{true, false, not, ap}
use borrow.Author.Tests.{ne_eqb, eq-eqb}
use Rattle.encoding.specs.Refusals.{answer_or, done_or}
use Rattle.cmpnt_list.proofs.Tests.{matrix-many, matrix-size}
use Rattle.cmpnt_list.proofs.square_fault.Goals as goal

pub returns-then-m-gt-MAX_ROWS : goal.returns-then-m-gt-MAX_ROWS
unfolding answer_or
returns-then-m-gt-MAX_ROWS c = ap done_or (matrix-many c.args.m c.args.size c.if-m-gt-MAX_ROWS.true)

pub returns-then-size-matrix_size : goal.returns-then-size-matrix_size
unfolding answer_or
returns-then-size-matrix_size c =
    ap done_or (matrix-size c.args.m c.args.size true c.if-m-gt-MAX_ROWS.false c.matrix_size.ensures (ap not (ne_eqb _ _ c.if-size-matrix_size.true)))

pub returns : goal.returns
unfolding answer_or
returns c =
    ap done_or (matrix-size c.args.m c.args.size false c.if-m-gt-MAX_ROWS.false c.matrix_size.ensures (ap not (eq-eqb _ _ c.if-size-matrix_size.false)))
