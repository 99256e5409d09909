-- `late::column::step` meets its contract: `begin` leaves a block with room that stands for the same run, so `column`, run from there, is run from the
-- start. Lengths are carried from call to call. Assumes nothing.
use mathlib.Core.Path.{refl}
use Rattle.late.proofs.Columning.{begin-in, column-in, step_then}
use Rattle.late.proofs.column.step.Goals as goal

pub begin-r-requires : goal.begin-r-requires
begin-r-requires c = begin-in c.requires.step_in

pub power-o-requires : goal.power-o-requires
power-o-requires c = c.begin-r.ensures.few

pub column-requires : goal.column-requires
column-requires c =
    record {
      column_in = column-in c.requires.step_in c.begin-r.ensures refl c.power-o.result c.power-o.ensures;
      below = (c.requires.below.0, c.requires.below.1);
    }

pub returns : goal.returns
returns c =
    record {
      t_in_bounds = c.column.ensures.t_in_bounds;
      runs = step_then c.requires.step_in c.begin-r.ensures refl c.column.ensures.runs;
    }
