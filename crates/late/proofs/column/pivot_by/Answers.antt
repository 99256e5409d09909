-- `late::column::pivot_by` meets its contract: `lead` brings the pivot up to date, and `freeze` takes it into the table and clears the column. Two runs one
-- after the other are the rule's pivot; a log that gets full in the first ends it. Assumes nothing.
use native.Mathlib.Omega.{arith}
use mathlib.Core.Path.{refl}
use mathlib.Core.List.{◌++◌}
use Rattle.std.specs.Prelude.{◌≡◌, Err}
use Rattle.late.proofs.Columning.{freeze-ready, pivot-full, pivot-then}
use Rattle.late.proofs.column.pivot_by.Goals as goal

pub lead-requires : goal.lead-requires
lead-requires c =
    record {
      lead_in = c.requires.pivot_in.ready;
      finds = c.requires.pivot_in.finds;
    }

pub returns-in_err-r : goal.returns-in_err-r
returns-in_err-r c =
    let a = c.args in
    let e : c.from_residual.result ≡ Err c.in_err-r.field-0.0 = grind arith in
    rw e (pivot-full a.found (a.lists.now.listed.now ++ a.lists.now.extra.now) c.in_err-r.ensures refl)

pub freeze-requires : goal.freeze-requires
freeze-requires c =
    record {
      freeze_in = freeze-ready c.requires.pivot_in c.in_ok-r.ensures refl;
      below = (c.requires.below.0, c.requires.below.1);
    }

pub returns : goal.returns
returns c = let a = c.args in pivot-then a.found (a.lists.now.listed.now ++ a.lists.now.extra.now) c.in_ok-r.ensures refl c.freeze.ensures
