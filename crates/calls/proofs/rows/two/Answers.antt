use Rattle.calls.proofs.Kit.{[], ◌∷◌}
use Rattle.calls.proofs.Said.{bad_told}
use Rattle.forms.specs.Form.{any}
use Rattle.text.specs.Lines.{fields}
use Rattle.calls.specs.Answer.{two}
use Rattle.calls.proofs.rows.two.Goals as goal

pub returns-in_default : goal.returns-in_default
unfolding two
returns-in_default c =
    bad_told (fields (any ∷ any ∷ [])) _ _ _ c.args.s.now c.args.at _ c.read_two.ensures c.last.ensures c.in_default.is _ _ _ _ c.bad.ensures
