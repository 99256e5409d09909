use Rattle.verdict.proofs.take_in.Goals as goal

pub returns : goal.returns
returns c = record { input = _; from = c.take.ensures }
