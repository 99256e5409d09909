-- The checker's number is given at once (`run-refused`), then 14 where an output is too short (`run_short`); else all parts are there (`run-filled`).
-- Each answer is the first line that fits, since those before it have failed.
use native.Mathlib.Omega.{arith}
use Prim.Native.Nat.{◌≤◌}
use lib.ListN.{length}
use Rattle.pwl.specs.File.{run_by, whole_len}
use Rattle.std.proofs.Common.{rules, ◌≡◌, ◌++◌, Err, sym, subst}
use Rattle.encoding.specs.Ranks.{by_rank}
use Rattle.pwl.specs.Calls.{outputs, run_lines, room_lines, RunRead}
use Rattle.pwl.proofs.Runs.{units_fit, claim_fits}
use Rattle.pwl.proofs.Filling.{room-is, roomy, run-refused, run_short, run-filled}
use Rattle.pwl.proofs.reading.read_run.Goals as goal

pub returns-in_err-run_fault : goal.returns-in_err-run_fault
returns-in_err-run_fault c =
    let a = c.args in
    let r = run_by a.f a.s.now in
    let o = outputs a.units.now a.x.now a.z.now a.p.now a.claimed.now in
    let h : c.from_residual.result ≡ Err c.in_err-run_fault.field-0.0 = search rules in
    subst (RunRead (by_rank (run_lines r ++ room_lines r o)) a.f r o o) (sym h) (run-refused a.f r o c.run_fault.ensures c.in_err-run_fault.was)

pub overflow_add-t : goal.overflow_add-t
overflow_add-t c =
    let h : whole_len c.args.f ≤ length c.args.s.now = omega (arith, c.requires.2) in
    omega (arith, units_fit c.args.f c.places_of-at.result c.places_of-at.ensures h, c.well_formed.0)

pub overflow_add-t-2 : goal.overflow_add-t-2
overflow_add-t-2 c =
    let h : whole_len c.args.f ≤ length c.args.s.now = omega (arith, c.requires.2) in
    omega (arith, units_fit c.args.f c.places_of-at.result c.places_of-at.ensures h, c.well_formed.0)

pub overflow_mul-t : goal.overflow_mul-t
overflow_mul-t c =
    let h : whole_len c.args.f ≤ length c.args.s.now = omega (arith, c.requires.2) in
    omega (arith, units_fit c.args.f c.places_of-at.result c.places_of-at.ensures h, c.well_formed.0)

pub overflow_add-t-3 : goal.overflow_add-t-3
overflow_add-t-3 c =
    let h : whole_len c.args.f ≤ length c.args.s.now = omega (arith, c.requires.2) in
    omega (arith, units_fit c.args.f c.places_of-at.result c.places_of-at.ensures h, c.well_formed.0)

pub no_room-requires : goal.no_room-requires
no_room-requires c =
    let h : whole_len c.args.f ≤ length c.args.s.now = omega (arith, c.requires.2) in
    omega (arith, claim_fits c.args.f c.places_of-at.result c.places_of-at.ensures h, c.well_formed.0)

pub returns-then-no_room : goal.returns-then-no_room
returns-then-no_room c =
    let a = c.args in
    let r = run_by a.f a.s.now in
    let o = outputs a.units.now a.x.now a.z.now a.p.now a.claimed.now in
    let w = c.places_of-at in
    run_short a.f r o c.run_fault.ensures c.in_ok-run_fault.was (room-is a.f a.s.now w.result w.ensures o c.no_room.ensures) c.if-no_room.true

pub fill-requires : goal.fill-requires
fill-requires c =
    let h : whole_len c.args.f ≤ length c.args.s.now = omega (arith, c.requires.2) in
    record {
      at_value = (c.places_of-at.ensures, h);
      entries_in_bounds = roomy _ _ _ _ _ _ _ _ c.no_room.ensures c.if-no_room.false;
    }

pub returns : goal.returns
returns c =
    let a = c.args in
    let r = run_by a.f a.s.now in
    let o = outputs a.units.now a.x.now a.z.now a.p.now a.claimed.now in
    let w = c.places_of-at in
    run-filled a.f r o c.run_fault.ensures c.in_ok-run_fault.was (room-is a.f a.s.now w.result w.ensures o c.no_room.ensures) c.if-no_room.false c.fill.ensures
