-- A turn that fills the log ends the run of the list (`going-full`), any other goes one row on (`going_next`).
use Rattle.std.specs.Prelude.{◌≡◌, Err}
use Rattle.terms.proofs.Steps.{does-as, going_start, going_next, going-full, going_end}
use Rattle.terms.specs.Workers.{run_of, going_on}
use Rattle.reduction.specs.Workers.{turn_c}
use Rattle.reduction.specs.Log.{capacity}
use Rattle.encoding.specs.Set.{mem_of}
use Rattle.pauli.specs.Row.{mul_row, bit_row}
use native.Mathlib.Omega.{arith}
use mathlib.Core.Path.{refl, ap}
use Prim.Native.Nat.{◌/◌}
use lib.ListN.{get_or}
use Rattle.terms.proofs.reduce.clear.Goals as goal

pub loop-k-init : goal.loop-k-init
loop-k-init c = let a = c.args in going_start (turn_c (bit_row a.n) (mul_row a.n) (capacity a.log.now) a.c a.pivot) a.list.now c.requires.ready

pub turn-requires : goal.turn-requires
turn-requires c =
    let l = c.loop-k in
    record {
      ready = l.invariant.ready;
      c_bound = (c.requires.c_bound.0, c.requires.c_bound.1, c.requires.c_bound.2 l.k-index (omega arith));
    }

pub returns-in_err-r : goal.returns-in_err-r
returns-in_err-r c =
    let a = c.args in
    let l = c.loop-k in
    let e : c.from_residual.result ≡ Err c.in_err-r.field-0.0 = grind arith in
    rw e (going-full l.invariant (omega arith) refl (does-as (ap (λ m. turn_c (bit_row a.n) (mul_row a.n) (m / 2) a.c a.pivot (get_or a.list.now l.k-index 0) (run_of a.n (mem_of a.m l.x l.z l.p) l.log (going_on l.r))) l.invariant.log-len) c.in_err-r.ensures))

pub loop-k-preserved : goal.loop-k-preserved
loop-k-preserved c =
    let a = c.args in
    let l = c.loop-k in
    going_next l.invariant (omega arith) refl (does-as (ap (λ m. turn_c (bit_row a.n) (mul_row a.n) (m / 2) a.c a.pivot (get_or a.list.now l.k-index 0) (run_of a.n (mem_of a.m l.x l.z l.p) l.log (going_on l.r))) l.invariant.log-len) c.in_ok-r.ensures)

pub returns : goal.returns
returns c = going_end c.loop-k.invariant (omega arith)
