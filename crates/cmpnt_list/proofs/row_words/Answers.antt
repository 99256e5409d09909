-- The words from the row's start to its end are the row (`part-is`).
use Rattle.cmpnt_list.proofs.Views.{part-is}
use Rattle.cmpnt_list.proofs.row_words.Goals as goal

pub returns : goal.returns
returns c =
    let s = c.args.set.now in
    record {
      x = part-is c.row_span-s.ensures s.x.now;
      z = part-is c.row_span-s.ensures s.z.now;
    }
