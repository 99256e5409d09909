-- `clifford::s_row` meets its contract. Assumes nothing.
use Rattle.encoding.specs.Set.{mem_of}
use Rattle.clifford.proofs.Rows.{s-done}
use Rattle.clifford.proofs.s_row.Goals as goal

pub returns : goal.returns
returns c =
    let a = c.args in
    s-done a.n a.r.0 (mem_of a.m a.x.now a.z.now a.phases.now) a.q c.read-b.ensures.x c.read-b.ensures.z c.requires c.turn.ensures
