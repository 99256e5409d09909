-- Either way, the loops or the table, has the contract of the whole: what is asked goes down as it is, and what is left comes back as it is, lengths
-- included.
use Rattle.terms.proofs.reduce.columns.Goals as goal

pub by_loops-requires : goal.by_loops-requires
by_loops-requires c =
    record {
      sound = c.requires.sound;
      below = c.requires.below;
    }

pub returns-then-few : goal.returns-then-few
returns-then-few c = c.by_loops.ensures

pub by_table-requires : goal.by_table-requires
by_table-requires c =
    record {
      sound = c.requires.sound;
      below = c.requires.below;
    }

pub returns : goal.returns
returns c = c.by_table.ensures
