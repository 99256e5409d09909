-- The fields are read to the line's end by the readers' contracts: `bad_told` where one is missing, `said-good` where all are there.
-- What the call answers and leaves is then the text of the definition.
use Rattle.calls.proofs.Kit.{◌∙◌, [], ◌∷◌}
use Rattle.calls.proofs.Said.{told, bad_told, said-good, acted-word-is}
use Rattle.text.specs.Lines.{word, fields}
use Rattle.calls.specs.Answer.{act1}
use Rattle.calls.proofs.words.act1.Goals as goal

pub returns-in_default : goal.returns-in_default
unfolding act1
returns-in_default c =
    let s = c.args.s.now in
    let f = fields (word ∷ word ∷ word ∷ []) in
    bad_told f _ _ _ s c.args.at _ c.three.ensures c.last.ensures c.in_default.is _ _ _ _ c.bad.ensures

pub returns : goal.returns
unfolding act1
returns c =
    let s = c.args.s.now in
    let f = fields (word ∷ word ∷ word ∷ []) in
    told (said-good f _ _ _ s c.args.at _ c.three.ensures c.last.ensures c.in-Some.is ∙ acted-word-is _ c.mul_op_state_phase_u64-e.ensures) _ _ _ _ c.acted_word.ensures
