-- The fields are read to the line's end by the readers' contracts: `bad_told` where one is missing, `said-good` where all are there.
-- What the call answers and leaves is then the text of the definition.
use Rattle.calls.proofs.Kit.{◌∙◌}
use Rattle.calls.proofs.Said.{told, bad_told, said-good}
use Rattle.text.specs.Lines.{field}
use Rattle.calls.specs.Gate.{gate}
use Rattle.calls.proofs.Left.{conjugated-is}
use Rattle.calls.specs.Answer.{gated}
use Rattle.calls.proofs.conjugate.gate.Goals as goal

pub returns-in_default : goal.returns-in_default
unfolding gated
returns-in_default c =
    let s = c.args.s.now in
    let f = field gate in
    bad_told f _ _ _ s c.args.at _ c.read_gate.ensures c.last.ensures c.in_default.is _ _ _ _ c.bad.ensures

pub returns : goal.returns
unfolding gated
returns c =
    let s = c.args.s.now in
    let f = field gate in
    told (said-good f _ _ _ s c.args.at _ c.read_gate.ensures c.last.ensures c.in-Some.is ∙ conjugated-is c.conj_clifford-a.ensures) _ _ _ _ c.changed.ensures
