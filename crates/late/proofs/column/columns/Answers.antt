-- A column that fills the log ends the run of the order (`going-full`), any other goes one column on (`going_next`).
use native.Mathlib.Omega.{arith}
use mathlib.Core.Path.{refl}
use lib.ListN.{get_or}
use Rattle.std.specs.Prelude.{◌≡◌, Err}
use Rattle.pauli.specs.Row.{mul_row, bit_row}
use Rattle.reduction.specs.Log.{capacity}
use Rattle.reduction.specs.Workers.{column_c}
use Rattle.late.proofs.Runs.{going_start, going_next, going-full, going_end}
use Rattle.late.proofs.Columning.{start-shape, start-within, runs-room}
use Rattle.late.proofs.column.columns.Goals as goal

pub loop-c-init : goal.loop-c-init
loop-c-init c =
    let a = c.args in
    (omega arith, going_start (column_c (bit_row a.n) (mul_row a.n) (capacity a.log.now) a.lists.now.listed.now a.lists.now.extra.now) a.lists.now.order.now (start-shape a.log.now c.requires.start_in refl) refl (start-within a.log.now c.requires.start_in))

pub overflow_cast-c : goal.overflow_cast-c
overflow_cast-c c = omega (arith, c.type_inv.c)

pub step-requires : goal.step-requires
step-requires c =
    let h = c.requires.below in
    let l = c.loop-c in
    let g = l.invariant.1 in
    record {
      step_in = record { shape = g.carries.shape; going = g.on; within = g.inv; place = l.invariant.0; c-in = h.0 l.c-index c.loop-c-test.true };
      below = (h.1, h.2);
    }

pub returns-in_err-r : goal.returns-in_err-r
returns-in_err-r c =
    let a = c.args in
    let l = c.loop-c in
    let g = l.invariant.1 in
    let e : c.from_residual.result ≡ Err c.in_err-r.field-0.0 = grind arith in
    rw e (going-full g c.loop-c-test.true (runs-room (λ room. column_c (bit_row a.n) (mul_row a.n) room a.lists.now.listed.now a.lists.now.extra.now (get_or a.lists.now.order.now l.c-index 0)) l.log a.log.now g.carries.log-len c.in_err-r.ensures.runs) refl)

pub loop-c-preserved : goal.loop-c-preserved
loop-c-preserved c =
    let a = c.args in
    let l = c.loop-c in
    let g = l.invariant.1 in
    (c.in_ok-r.ensures.t_in_bounds, going_next g c.loop-c-test.true (runs-room (λ room. column_c (bit_row a.n) (mul_row a.n) room a.lists.now.listed.now a.lists.now.extra.now (get_or a.lists.now.order.now l.c-index 0)) l.log a.log.now g.carries.log-len c.in_ok-r.ensures.runs) refl)

pub returns : goal.returns
returns c = going_end c.loop-c.invariant.1 c.loop-c-test.false
