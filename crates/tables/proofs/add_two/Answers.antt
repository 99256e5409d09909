-- `tables::add_two` meets its contract. Assumes nothing.
-- Word q has an even place, so its table has room for the doubled number of entries when q + 1 comes (`twice`).
use native.Mathlib.Omega.{arith}
use Rattle.tables.proofs.Beginning.{twice}
use Rattle.tables.proofs.add_two.Goals as goal

pub add_word-requires-2 : goal.add_word-requires-2
add_word-requires-2 c =
    (omega (arith, c.requires.0, c.requires.1), twice c.args.q c.requires.1 c.requires.2, c.requires.3, c.add_word.ensures)
