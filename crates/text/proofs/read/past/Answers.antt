use Rattle.text.proofs.Kit.{sym, ◌∙◌}
use Rattle.text.proofs.Places.{passes}
use Rattle.text.proofs.read.past.Goals as goal

pub returns-then-starts : goal.returns-then-starts
returns-then-starts c = passes _ _ _ (sym c.starts.ensures ∙ c.if-starts.true)
