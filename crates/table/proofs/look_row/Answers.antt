-- Each word takes 32 of the look-ups, or all that are left, so after a word one word less is to come. Assumes nothing.
use Rattle.std.proofs.Common.{arith}
use Rattle.table.proofs.Walks.{rowed-more, rowed-all}
use Rattle.table.proofs.look_row.Goals as goal

pub loop-i-preserved : goal.loop-i-preserved
loop-i-preserved c =
    let a = c.args in
    let t = c.in_word-k.ensures in
    rowed-more a.lx.now a.lz.now a.rx.now a.rz.now c.in_word-k.result c.look_word.result c.loop-i.invariant (omega (arith, c.shortest-m.ensures))
    t.0 t.1 t.2 c.look_word.ensures

pub returns : goal.returns
returns c =
    let a = c.args in
    rowed-all a.lx.now a.lz.now a.rx.now a.rz.now c.loop-i.invariant (omega (arith, c.shortest-m.ensures))
