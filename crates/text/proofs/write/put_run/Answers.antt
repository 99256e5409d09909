use Rattle.text.proofs.Numbers.{length_digits}
use Rattle.text.proofs.Writing.{no_room}
use Rattle.text.proofs.write.put_run.Goals as goal

pub returns-in_err-end : goal.returns-in_err-end
returns-in_err-end c = rw c.from_residual.ensures (no_room _ _ _ (length_digits _ _ _) c.in_err-end.ensures)
