use Rattle.std.proofs.Common.{rules}
use Rattle.verdict.proofs.main.Goals as goal

pub put_line-n-requires : goal.put_line-n-requires
put_line-n-requires c = (search rules, c.take_in-taken.ensures)
