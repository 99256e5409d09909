use Rattle.std.proofs.Common.{◌≡◌, ℕ, length, ap₂, ◌∙◌, arith}
use Rattle.mat_elem.specs.declared.Place.{Place}
use Rattle.mat_elem.proofs.Places.{run_none, run_more, run-stop, run_end}
use Rattle.mat_elem.proofs.block.Goals as goal

abbrev place : ℕ → ℕ → Place
place first last = record { first = first; last = last }

pub start-first-requires : goal.start-first-requires
start-first-requires c = c.requires

pub loop-last-init : goal.loop-last-init
loop-last-init c =
    rw c.start-first.ensures (run_none c.args.x.now c.args.t c.requires)

pub returns-then-x-last : goal.returns-then-x-last
returns-then-x-last c =
    ap₂ place c.start-first.ensures (run-stop c.args.x.now c.args.t c.requires c.loop-last.invariant c.loop-last-test.true c.if-x-last.true)

pub loop-last-preserved : goal.loop-last-preserved
loop-last-preserved c =
    run_more c.args.x.now c.args.t c.requires c.loop-last.invariant c.loop-last-test.true c.if-x-last.false

pub returns : goal.returns
returns c =
    let e : length c.args.x.now ≡ c.loop-last.last = omega arith in
    ap₂ place c.start-first.ensures (e ∙ run_end c.args.x.now c.args.t c.requires c.loop-last.invariant (omega arith))
