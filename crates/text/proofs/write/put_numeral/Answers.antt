use Rattle.text.specs.Numbers.{numeral}
use Rattle.text.proofs.write.put_numeral.Goals as goal

pub returns : goal.returns
unfolding numeral
returns c = rw (← c.size-n.ensures.0) c.put_run.ensures
