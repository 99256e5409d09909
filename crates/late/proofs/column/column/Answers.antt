-- `late::column::column` meets its contract. No row found: the column is passed over. Else the pivot is the listed row at place t, `pivot_by` does the
-- rule's pivot, and t grows by one where the log did not get full. Lengths are carried from call to call. Assumes nothing.
use native.Mathlib.Omega.{arith}
use mathlib.Core.Path.{refl}
use Rattle.std.specs.Prelude.{◌≡◌, Err}
use Rattle.late.proofs.Columning.{search-in, column-none, pivot-in, column-full, column-done}
use Rattle.late.proofs.column.column.Goals as goal

pub find_column-requires : goal.find_column-requires
find_column-requires c = search-in c.requires.column_in c.requires.below.0

pub returns-in_default : goal.returns-in_default
returns-in_default c =
    record {
      t_in_bounds = c.requires.column_in.place;
      runs = column-none c.requires.column_in c.requires.below.0 c.args.lists.now.extra.now c.find_column.ensures c.in_default.is;
    }

pub offset_bounds-lists-t : goal.offset_bounds-lists-t
offset_bounds-lists-t c = omega (arith, (c.find_column.ensures.at c.in-Some.f c.in-Some.is).from, (c.find_column.ensures.at c.in-Some.f c.in-Some.is).inside)

pub bounds-lists-t : goal.bounds-lists-t
bounds-lists-t c = omega (arith, (c.find_column.ensures.at c.in-Some.f c.in-Some.is).from, (c.find_column.ensures.at c.in-Some.f c.in-Some.is).inside)

pub offset_bounds-lists-f : goal.offset_bounds-lists-f
offset_bounds-lists-f c = omega (arith, (c.find_column.ensures.at c.in-Some.f c.in-Some.is).inside)

pub bounds-lists-f : goal.bounds-lists-f
bounds-lists-f c = (c.find_column.ensures.at c.in-Some.f c.in-Some.is).inside

pub pivot_by-requires : goal.pivot_by-requires
pivot_by-requires c =
    record {
      pivot_in = pivot-in c.requires.column_in c.requires.below.0 c.args.lists.now.extra.now (c.find_column.ensures.at c.in-Some.f c.in-Some.is);
      below = (c.requires.below.0, c.requires.below.1);
    }

pub returns-in_err-r : goal.returns-in_err-r
returns-in_err-r c =
    let e : c.from_residual.result ≡ Err c.in_err-r.field-0.0 = grind arith in
    rw e
    (record {
      t_in_bounds = tt;
      runs = column-full c.requires.column_in c.requires.below.0 c.args.lists.now.extra.now (c.find_column.ensures.at c.in-Some.f c.in-Some.is) c.in_err-r.ensures refl;
    })

pub overflow_add-result : goal.overflow_add-result
overflow_add-result c = omega (arith, (c.find_column.ensures.at c.in-Some.f c.in-Some.is).from, (c.find_column.ensures.at c.in-Some.f c.in-Some.is).inside)

pub returns : goal.returns
returns c =
    record {
      t_in_bounds = omega (arith, (c.find_column.ensures.at c.in-Some.f c.in-Some.is).from, (c.find_column.ensures.at c.in-Some.f c.in-Some.is).inside);
      runs = column-done c.requires.column_in c.requires.below.0 c.args.lists.now.extra.now (c.find_column.ensures.at c.in-Some.f c.in-Some.is) c.in_ok-r.ensures refl;
    }
