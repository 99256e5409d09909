-- What opening refuses is given at once (`read_refused`); else the file is as long as its front says (`opened_front`), and what is left is the run's
-- (`read_done`). The run's lines come behind the file's, so that its number is the answer where the file has none.
use native.Mathlib.Omega.{arith}
use Rattle.std.proofs.Common.{rules, ◌≡◌, Err, sym, subst}
use Rattle.pwl.specs.Calls.{outputs, Reads}
use Rattle.pwl.proofs.Filling.{opened_front, read_refused, read_done}
use Rattle.pwl.proofs.reading.read.Goals as goal

pub returns-in_err-f : goal.returns-in_err-f
returns-in_err-f c =
    let a = c.args in
    let o = outputs a.units.now a.x.now a.z.now a.p.now a.claimed.now in
    let h : c.from_residual.result ≡ Err c.in_err-f.field-0.0 = search rules in
    subst (Reads a.s.now o o) (sym h) (read_refused a.s.now o c.open.ensures c.in_err-f.was)

pub read_run-requires : goal.read_run-requires
read_run-requires c = opened_front c.args.s.now c.open.ensures c.in_ok-f.was (λ i. omega (arith, c.type_inv.s i))

pub returns : goal.returns
returns c =
    let a = c.args in
    let o = outputs a.units.now a.x.now a.z.now a.p.now a.claimed.now in
    read_done a.s.now o c.open.ensures c.in_ok-f.was c.read_run.ensures
