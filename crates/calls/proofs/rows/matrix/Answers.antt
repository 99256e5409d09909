-- The fields are read to the line's end by the readers' contracts: `bad_told` where one is missing, `good_told` where all are there.
-- What the call answers and leaves is then the text of the definition.
use Rattle.calls.specs.Limits.{most_words}
use Rattle.calls.proofs.Said.{bad_told, good_told, last-fits}
use native.Mathlib.Nat.{sub-zero}
use lib.Seq.{length-take-le}
use Rattle.text.specs.Lines.{one, read, field}
use Rattle.calls.specs.Answer.{matrix_in}
use Rattle.calls.proofs.rows.matrix.Goals as goal

pub returns-in_default : goal.returns-in_default
unfolding matrix_in
returns-in_default c =
    let s = c.args.s.now in
    let f = field (read (one most_words)) in
    bad_told f _ _ _ s c.args.at _ c.number.ensures c.last.ensures c.in_default.is _ _ _ _ c.bad.ensures

pub returns : goal.returns
unfolding matrix_in
returns c =
    let s = c.args.s.now in
    let f = field (read (one most_words)) in
    good_told f _ _ _ s c.args.at _ c.number.ensures c.last.ensures c.in-Some.is _ _ _ _ (rw (sub-zero c.in-Some.w, length-take-le c.in-Some.w _ (last-fits f _ _ s c.args.at _ c.number.ensures c.last.ensures c.in-Some.is)) at c.into_matrix.ensures)
