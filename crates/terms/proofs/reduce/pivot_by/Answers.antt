-- First the pivot is multiplied by the row found, if that is another, then the column is cleared: two pieces of a run, one after the other
-- (`does-then`). If the first fills the log, the second is not begun (`does-full`).
use native.Mathlib.Omega.{arith}
use Rattle.std.specs.Prelude.{◌≡◌, Err}
use Rattle.terms.proofs.Steps.{does-as, does-then, does-full, ready-next}
use Rattle.terms.specs.Workers.{run_of, going_on}
use Rattle.reduction.specs.Workers.{through, turn_c, pivot_c}
use Rattle.reduction.specs.Log.{capacity}
use mathlib.Core.List.{◌++◌}
use Rattle.encoding.specs.Set.{mem_of}
use Rattle.pauli.specs.Row.{mul_row, bit_row}
use mathlib.Core.Path.{refl, ap}
use Prim.Native.Nat.{◌/◌}
use Rattle.terms.proofs.reduce.pivot_by.Goals as goal

pub returns-in_err-r : goal.returns-in_err-r
unfolding pivot_c
returns-in_err-r c =
    let a = c.args in
    let e : c.from_residual.result ≡ Err c.in_err-r.field-0.0 = grind arith in
    rw e (does-full (λ r. through (turn_c (bit_row a.n) (mul_row a.n) (capacity a.log.now) a.c a.pivot) (a.lists.now.listed.now ++ a.lists.now.extra.now) r) c.in_err-r.ensures refl)

pub clear_both-requires : goal.clear_both-requires
clear_both-requires c =
    let h = c.requires.c_bound in
    let d = c.in_ok-r.ensures in
    record {
      ready = ready-next d refl;
      c_bound = (h.0, h.1, h.3, h.4);
    }

pub returns : goal.returns
unfolding pivot_c
returns c =
    let a = c.args in
    let d = c.lead in
    let same = ap (λ m. through (turn_c (bit_row a.n) (mul_row a.n) (m / 2) a.c a.pivot) (a.lists.now.listed.now ++ a.lists.now.extra.now) (run_of a.n (mem_of a.m d.new.x d.new.z d.new.p) d.new.log (going_on c.in_ok-r.r))) c.in_ok-r.ensures.log-len in
    does-then c.in_ok-r.ensures refl (does-as same c.clear_both.ensures)
