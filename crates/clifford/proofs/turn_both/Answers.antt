-- `clifford::turn_both` meets its contract: after the target the memory is a row set still, and two changes of one row are one. Assumes nothing.
use mathlib.Core.Path.{refl}
use Rattle.clifford.proofs.Rows.{control-ready, both-turned}
use Rattle.clifford.proofs.turn_both.Goals as goal

pub turn-requires-2 : goal.turn-requires-2
turn-requires-2 c =
    let a = c.args in
    control-ready a.n a.r.0 a.control a.target c.requires a.c.x c.turn.ensures

pub returns : goal.returns
returns c =
    let a = c.args in
    both-turned a.n a.r.0 a.control a.target c.requires a.c.x c.turn.ensures a.c.z a.t.x a.t.z refl c.turn-2.ensures
