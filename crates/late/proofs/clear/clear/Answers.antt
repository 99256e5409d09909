-- A turn that fills the log ends the run of the list (`going-full`), any other goes one row on (`going_next`).
use native.Mathlib.Omega.{arith}
use mathlib.Core.Path.{refl}
use lib.ListN.{get_or}
use Rattle.std.specs.Prelude.{◌≡◌, Err}
use Rattle.pauli.specs.Row.{mul_row, bit_row}
use Rattle.reduction.specs.Log.{capacity}
use Rattle.reduction.specs.Workers.{turn_c}
use Rattle.late.proofs.Runs.{going_start, going_next, going-full, going_end}
use Rattle.late.proofs.Clearing.{turn-next, turn-as}
use Rattle.late.proofs.clear.clear.Goals as goal

pub loop-k-init : goal.loop-k-init
loop-k-init c =
    let a = c.args in
    going_start (turn_c (bit_row a.n) (mul_row a.n) (capacity a.log.now) a.by.c a.by.row) a.list.now c.requires.turn_in.shape refl c.requires.turn_in.clearing

pub turn-requires : goal.turn-requires
turn-requires c =
    let g = c.loop-k.invariant in
    record {
      turn_in = turn-next c.requires.turn_in g.carries g.on g.inv;
      sees = (c.requires.sees.0, c.requires.sees.1 c.loop-k.k-index c.loop-k-test.true);
    }

pub returns-in_err-r : goal.returns-in_err-r
returns-in_err-r c =
    let a = c.args in
    let g = c.loop-k.invariant in
    let e : c.from_residual.result ≡ Err c.in_err-r.field-0.0 = grind arith in
    rw e (going-full g c.loop-k-test.true (turn-as c.requires.turn_in g.carries g.on g.inv (λ room. turn_c (bit_row a.n) (mul_row a.n) room a.by.c a.by.row (get_or a.list.now c.loop-k.k-index 0)) c.in_err-r.ensures) refl)

pub loop-k-preserved : goal.loop-k-preserved
loop-k-preserved c =
    let a = c.args in
    let g = c.loop-k.invariant in
    going_next g c.loop-k-test.true (turn-as c.requires.turn_in g.carries g.on g.inv (λ room. turn_c (bit_row a.n) (mul_row a.n) room a.by.c a.by.row (get_or a.list.now c.loop-k.k-index 0)) c.in_ok-r.ensures) refl

pub returns : goal.returns
returns c = going_end c.loop-k.invariant c.loop-k-test.false
