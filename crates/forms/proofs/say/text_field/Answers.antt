use Rattle.forms.proofs.Kit.{then_some, ◌≡◌, length, rules}
use Rattle.forms.proofs.Texts.{some-text}
use Rattle.forms.proofs.say.text_field.Goals as goal

pub returns : goal.returns
returns c =
    let h : length c.args.s.now ≡ 0 → ⊥ = search rules in
    rw (some-text _ h) (then_some _ _ _ _ c.in_ok-at.ensures c.letters-2.ensures)
