use Rattle.verdict.specs.Verdict.{text_of}
use Rattle.verdict.proofs.put_answer.Goals as goal

pub returns-in-Ok : goal.returns-in-Ok
returns-in-Ok c = rw c.in-Ok.is c.put_verdict.ensures

pub returns-in-Err : goal.returns-in-Err
unfolding text_of
returns-in-Err c = rw c.in-Err.is c.put_numbered.ensures
