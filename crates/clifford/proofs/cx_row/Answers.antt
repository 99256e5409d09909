-- `clifford::cx_row` meets its contract. Assumes nothing.
use Rattle.clifford.proofs.Rows.{cx-done}
use Rattle.clifford.proofs.cx_row.Goals as goal

pub returns : goal.returns
returns c =
    let a = c.args in
    cx-done a.n a.r.0 a.control a.target c.requires c.read-c.ensures.x c.read-c.ensures.z c.read-t.ensures.x c.read-t.ensures.z c.turn_both.ensures
