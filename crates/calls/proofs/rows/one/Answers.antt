use Rattle.calls.proofs.Said.{bad_told, good_told}
use Rattle.forms.specs.Form.{any}
use Rattle.text.specs.Lines.{field, read}
use Rattle.calls.specs.Answer.{one'}
use Rattle.calls.proofs.rows.one.Goals as goal

pub returns-in_default : goal.returns-in_default
unfolding one'
returns-in_default c =
    bad_told (field (read any)) _ _ _ c.args.s.now c.args.at _ c.number.ensures c.last.ensures c.in_default.is _ _ _ _ c.bad.ensures

pub returns : goal.returns
unfolding one'
returns c =
    good_told (field (read any)) _ _ _ c.args.s.now c.args.at _ c.number.ensures c.last.ensures c.in-Some.is _ _ _ _ c.asked_one.ensures
