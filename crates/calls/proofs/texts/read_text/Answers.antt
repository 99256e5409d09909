-- The fields are read to the line's end by the readers' contracts: `last-none` where one is missing, `last-some` where all are there.
-- What the call answers and leaves is then the text of the definition.
use Rattle.calls.proofs.Said.{told, seen-none, seen, then-none, then-both, opened-as, match-none, match-some}
use Rattle.forms.specs.Form.{any, rest}
use Rattle.text.specs.Lines.{read, field}
use Rattle.calls.specs.Answer.{read_line}
use Rattle.calls.proofs.texts.read_text.Goals as goal

pub returns-in_default : goal.returns-in_default
unfolding read_line
returns-in_default c =
    let s = c.args.s.now in
    let f = field (read any) in
    told (opened-as _ (then-none f rest s c.args.at (seen-none f _ _ s c.args.at _ c.number.ensures c.in_default.is))) _ _ _ _ c.bad.ensures

pub returns-in_default-read_rest : goal.returns-in_default-read_rest
unfolding read_line
returns-in_default-read_rest c =
    let s = c.args.s.now in
    let f = field (read any) in
    let a = seen f _ _ s c.args.at _ c.number.ensures c.in-Some.is in
    told (opened-as _ (then-both f rest s c.args.at _ a.is (match-none _ _ c.read_rest.ensures c.in_default-read_rest.is))) _ _ _ _ c.bad-in_default-read_rest.ensures

pub returns : goal.returns
unfolding read_line
returns c =
    let s = c.args.s.now in
    let f = field (read any) in
    let a = seen f _ _ s c.args.at _ c.number.ensures c.in-Some.is in
    told (opened-as _ (then-both f rest s c.args.at _ a.is (match-some _ _ c.read_rest.ensures c.in-Some-read_rest.is))) _ _ _ _ c.parsed.ensures
