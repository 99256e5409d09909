use Rattle.std.specs.Prelude.{Some, [], ◌∷◌}
use Rattle.text.proofs.Adding.{both}
use Rattle.row_text.specs.Workers.{short}
use Rattle.row_text.proofs.fmt.put_behind.Goals as goal

pub returns : goal.returns
returns c =
    both (32 ∷ []) (short c.args.c c.args.q) (rw c.unwrap-at.ensures at c.put_byte.ensures) _ (Some c.put_short.result) c.put_short.ensures
