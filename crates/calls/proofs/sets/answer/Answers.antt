-- Where the fields of the set are read, the call is made on the parts that they fill; else the line is bad.
use native.Mathlib.Nat.{sub-zero}
use Rattle.calls.specs.Limits.{most_words, most_phases}
use Rattle.calls.proofs.Said.{seen-none, seen}
use Rattle.calls.proofs.Lined.{answers-as, set-as}
use Rattle.forms.specs.Form.{rows_kinds}
use Rattle.text.specs.Lines.{fields}
use Rattle.calls.specs.Answer.{with_set}
use Rattle.calls.proofs.sets.answer.Goals as goal

pub returns-in_default : goal.returns-in_default
unfolding with_set
returns-in_default c =
    let a = c.args in
    let f = fields (rows_kinds most_words most_words most_phases) in
    answers-as (set-as _ (seen-none f _ _ a.s.now a.end _ c.read_rows.ensures c.in_default.is)) _ _ _ _ c.bad.ensures

pub returns : goal.returns
unfolding with_set
returns c =
    let a = c.args in
    let f = fields (rows_kinds most_words most_words most_phases) in
    let q = c.in-Some.q in
    answers-as (set-as _ (seen f _ _ a.s.now a.end _ c.read_rows.ensures c.in-Some.is).is) _ _ _ _
    (rw (sub-zero q.x, sub-zero q.z, sub-zero q.p) at c.called.ensures)
