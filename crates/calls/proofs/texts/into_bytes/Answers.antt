use Rattle.calls.proofs.Said.{told}
use Rattle.encoding.specs.Set.{set_of}
use Rattle.calls.proofs.Left.{written_is}
use Rattle.calls.proofs.texts.into_bytes.Goals as goal

pub returns : goal.returns
returns c =
    let a = c.args in told (written_is a.set.now.n a.row (set_of a.set.now) c.fmt_elem-a.ensures) _ _ _ _ c.written.ensures
