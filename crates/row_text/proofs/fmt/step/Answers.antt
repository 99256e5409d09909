use Rattle.row_text.proofs.Putting.{step-word}
use Rattle.row_text.proofs.fmt.step.Goals as goal

pub returns-then-starts_empty : goal.returns-then-starts_empty
returns-then-starts_empty c =
    let a = c.args in
    step-word a.n a.x.now a.z.now a.q (c.starts_empty.ensures c.if-starts_empty.true)
