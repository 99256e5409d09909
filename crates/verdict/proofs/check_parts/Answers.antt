-- The parts that are lent are those of `run_in`, place by place, so that the checker's answer is the one on that run.
-- What the parts ask of the ends is what this function asks.
use Rattle.verdict.specs.Workers.{run_in}
use Rattle.verdict.proofs.check_parts.Goals as goal

pub returns : goal.returns
unfolding run_in
returns c = c.check.ensures.answer
