-- `late::rows::double` meets its contract: entry o becomes row a, and `fill` makes the entries past it from those below o, which stay.
-- Assumes nothing.
use Rattle.late.proofs.View.{double-put, double-next, double-at, double-then}
use Rattle.late.proofs.rows.double.Goals as goal

pub put_row-requires : goal.put_row-requires
put_row-requires c = double-put c.requires c.words-w.result c.words-w.ensures

pub fill-requires : goal.fill-requires
fill-requires c =
    let w = c.words-w in
    let q = c.put_row.ensures in
    record { ready = double-next c.requires w.result w.ensures q; words = w.ensures; at = double-at c.requires w.result w.ensures q }

pub returns : goal.returns
returns c = let w = c.words-w in double-then c.requires w.result w.ensures c.put_row.ensures c.fill.ensures
