-- Every part lies within the file and has room in its output; what the three calls leave is the run (`filling`).
-- Places are sums of the front's numbers, and the file is as long as they say.
use native.Mathlib.Omega.{arith}
use Rattle.pwl.specs.Calls.{outputs}
use Rattle.pwl.proofs.Runs.{lists_fit, log_fits, start_fits, claim_fits}
use Rattle.pwl.proofs.Filling.{filling}
use Rattle.pwl.proofs.reading.fill.Goals as goal

pub get_lists-requires : goal.get_lists-requires
get_lists-requires c =
    let a = c.args in
    (lists_fit a.f a.at c.requires.at_value.0 c.requires.at_value.1, log_fits a.f a.at c.requires.at_value.0 c.requires.at_value.1, c.requires.entries_in_bounds.0)

pub get_rows-requires : goal.get_rows-requires
get_rows-requires c =
    let a = c.args in
    (start_fits a.f a.at c.requires.at_value.0 c.requires.at_value.1, c.requires.entries_in_bounds.1, c.requires.entries_in_bounds.2, c.requires.entries_in_bounds.3)

pub get_list-requires : goal.get_list-requires
get_list-requires c =
    let a = c.args in
    (omega (arith, claim_fits a.f a.at c.requires.at_value.0 c.requires.at_value.1), c.requires.entries_in_bounds.4)

pub returns : goal.returns
returns c =
    let a = c.args in
    let r = c.get_rows.ensures in
    filling a.f a.s.now a.at c.requires.at_value.0 (outputs a.units.now a.x.now a.z.now a.p.now a.claimed.now)
    c.get_lists.ensures r.x_after r.z_after r.p_after c.get_list.ensures
