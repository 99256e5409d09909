use Rattle.replay.proofs.Marks.{good-by}
use Rattle.replay.proofs.entries.good_entry.Goals as goal

pub returns : goal.returns
returns c =
    let a = c.args in
    good-by a.marks.now a.a a.b c.mark_of-target.ensures c.mark_of-source.ensures
