-- `table::mul_op_op_phase_by_table` meets its contract: here the rule of the table's entries is computed, once, over all 256 of them. Assumes nothing.
use mathlib.Core.Path.{refl}
use Rattle.encoding.specs.Words.{word}
use Rattle.table.specs.Workers.{rule_at, all_ruled}
use Rattle.table.proofs.mul_op_op_phase_by_table.Goals as goal

pub look_row-requires : goal.look_row-requires
unfolding word rule_at all_ruled
look_row-requires c = (refl, tt)
