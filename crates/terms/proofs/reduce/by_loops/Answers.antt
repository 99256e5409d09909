-- A column that fills the log ends the run of the order (`going-full`), any other goes one column on (`going_next`).
use Rattle.std.specs.Prelude.{◌≡◌, Err}
use Rattle.terms.proofs.Steps.{does-as, going_start, going_next, going-full, going_end}
use Rattle.terms.specs.Workers.{run_of, going_on}
use Rattle.reduction.specs.Workers.{column_c}
use Rattle.reduction.specs.Log.{capacity}
use Rattle.encoding.specs.Set.{mem_of}
use Rattle.pauli.specs.Row.{mul_row, bit_row}
use native.Mathlib.Omega.{arith}
use mathlib.Core.Path.{refl, ap}
use Prim.Native.Nat.{◌/◌}
use lib.ListN.{get_or}
use Rattle.terms.proofs.reduce.by_loops.Goals as goal

pub loop-c-init : goal.loop-c-init
loop-c-init c = let a = c.args in (omega arith, going_start (column_c (bit_row a.n) (mul_row a.n) (capacity a.log.now) a.lists.now.listed.now a.lists.now.extra.now) a.lists.now.order.now (record { sound = c.requires.sound; room = omega arith; going = refl }))

pub column-requires : goal.column-requires
column-requires c =
    let h = c.requires.below in
    let l = c.loop-c in
    record {
      ready = l.invariant.1.ready;
      c_bound = (h.0 l.c-index (omega arith), l.invariant.0, h.1, h.2);
    }

pub returns-in_err-r : goal.returns-in_err-r
returns-in_err-r c =
    let a = c.args in
    let l = c.loop-c in
    let e : c.from_residual.result ≡ Err c.in_err-r.field-0.0 = grind arith in
    rw e (going-full l.invariant.1 (omega arith) refl (does-as (ap (λ m. column_c (bit_row a.n) (mul_row a.n) (m / 2) a.lists.now.listed.now a.lists.now.extra.now (get_or a.lists.now.order.now l.c-index 0) (run_of a.n (mem_of a.m l.x l.z l.p) l.log (going_on l.r))) l.invariant.1.log-len) c.in_err-r.ensures.does))

pub loop-c-preserved : goal.loop-c-preserved
loop-c-preserved c =
    let a = c.args in
    let l = c.loop-c in
    (c.in_ok-r.ensures.t_in_bounds, going_next l.invariant.1 (omega arith) refl (does-as (ap (λ m. column_c (bit_row a.n) (mul_row a.n) (m / 2) a.lists.now.listed.now a.lists.now.extra.now (get_or a.lists.now.order.now l.c-index 0) (run_of a.n (mem_of a.m l.x l.z l.p) l.log (going_on l.r))) l.invariant.1.log-len) c.in_ok-r.ensures.does))

pub returns : goal.returns
returns c = going_end c.loop-c.invariant.1 (omega arith)
