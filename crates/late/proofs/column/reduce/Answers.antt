-- `late::column::reduce` meets its contract: the columns are run, and then every row pays, so that rows, log and progress are those that the state stood
-- for, whether the log is full or not. Assumes nothing.
use mathlib.Core.Path.{◌∙◌}
use Rattle.late.proofs.Columning.{all_done}
use Rattle.late.proofs.column.reduce.Goals as goal

pub columns-r-requires : goal.columns-r-requires
columns-r-requires c =
    record {
      start_in = c.requires.start_in;
      below = c.requires.below;
    }

pub pay_all-requires : goal.pay_all-requires
pay_all-requires c = c.columns-r.ensures.carries.shape.owing

pub shape_of-x : goal.shape_of-x
shape_of-x c = c.pay_all.ensures.keeps.x_len ∙ c.columns-r.ensures.carries.rows-keep.x_len

pub shape_of-z : goal.shape_of-z
shape_of-z c = c.pay_all.ensures.keeps.z-len ∙ c.columns-r.ensures.carries.rows-keep.z-len

pub shape_of-p : goal.shape_of-p
shape_of-p c = c.pay_all.ensures.keeps.e-len ∙ c.columns-r.ensures.carries.rows-keep.e-len

pub shape_of-owed : goal.shape_of-owed
shape_of-owed c = c.pay_all.ensures.owed-len ∙ c.columns-r.ensures.carries.owed-len

pub shape_of-tx : goal.shape_of-tx
shape_of-tx c = c.columns-r.ensures.carries.table-keep.x_len

pub shape_of-tz : goal.shape_of-tz
shape_of-tz c = c.columns-r.ensures.carries.table-keep.z-len

pub shape_of-tp : goal.shape_of-tp
shape_of-tp c = c.columns-r.ensures.carries.table-keep.e-len

pub shape_of-log : goal.shape_of-log
shape_of-log c = c.columns-r.ensures.carries.log-len

pub returns : goal.returns
returns c = rw c.progress.ensures (all_done c.requires.start_in c.columns-r.ensures c.pay_all.ensures)
