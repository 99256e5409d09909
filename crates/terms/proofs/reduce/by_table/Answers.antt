-- `late` does the run or does nothing where it is not asked for; what this function asks is what `late` tests, so the run is done (`reduces-does`). Lengths
-- are kept by it.
use Rattle.late.proofs.Scratch.{reduces-does}
use Rattle.terms.proofs.reduce.by_table.Goals as goal

pub returns : goal.returns
returns c =
    reduces-does c.columns.ensures (record { sound = c.requires.sound; order-in = c.requires.below.0; listed_in = c.requires.below.1; extra-in = c.requires.below.2 })
