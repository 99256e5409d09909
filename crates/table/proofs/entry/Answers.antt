-- `table::entry` meets its contract. Assumes nothing.
use native.Mathlib.Omega.{arith}
use Rattle.table.proofs.Entries.{each-ruled}
use Rattle.table.proofs.entry.Goals as goal

pub returns : goal.returns
returns c = each-ruled c.args.t.now c.requires.1.1 c.args.k (omega (arith, c.requires.0, c.requires.1.0))
