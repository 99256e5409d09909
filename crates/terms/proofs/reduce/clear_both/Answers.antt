-- Listed rows and then extra rows, each through `clear`: two runs one after the other are the run over both lists (`through-append`). If the first
-- fills the log, the second is not begun, and a full run stays as it is (`does-full`).
use native.Mathlib.Omega.{arith}
use Rattle.std.specs.Prelude.{◌≡◌, Err}
use Rattle.reduction.proofs.Pieces.{through-append}
use Rattle.terms.proofs.Steps.{does-as, does-then, does-full, ready-next}
use Rattle.terms.specs.Workers.{run_of, going_on}
use Rattle.reduction.specs.Workers.{through, turn_c}
use Rattle.reduction.specs.Log.{capacity}
use Rattle.encoding.specs.Set.{mem_of}
use Rattle.pauli.specs.Row.{mul_row, bit_row}
use mathlib.Core.Path.{refl, ap}
use Prim.Native.Nat.{◌/◌}
use Rattle.terms.proofs.reduce.clear_both.Goals as goal

pub returns-in_err-r : goal.returns-in_err-r
returns-in_err-r c =
    let a = c.args in
    let e : c.from_residual.result ≡ Err c.in_err-r.field-0.0 = grind arith in
    rw e (does-as (through-append (turn_c (bit_row a.n) (mul_row a.n) (capacity a.log.now) a.c a.pivot) a.lists.now.listed.now a.lists.now.extra.now (run_of a.n (mem_of a.m a.x.now a.z.now a.p.now) a.log.now (going_on a.s)))
    (does-full (λ r. through (turn_c (bit_row a.n) (mul_row a.n) (capacity a.log.now) a.c a.pivot) a.lists.now.extra.now r) c.in_err-r.ensures refl))

pub clear-requires-2 : goal.clear-requires-2
clear-requires-2 c =
    let h = c.requires.c_bound in
    let d = c.in_ok-r.ensures in
    record {
      ready = ready-next d refl;
      c_bound = (h.0, h.1, h.3);
    }

pub returns : goal.returns
returns c =
    let a = c.args in
    let d = c.clear in
    let same = ap (λ m. through (turn_c (bit_row a.n) (mul_row a.n) (m / 2) a.c a.pivot) a.lists.now.extra.now (run_of a.n (mem_of a.m d.new.x d.new.z d.new.p) d.new.log (going_on c.in_ok-r.r))) c.in_ok-r.ensures.log-len in
    does-as (through-append (turn_c (bit_row a.n) (mul_row a.n) (capacity a.log.now) a.c a.pivot) a.lists.now.listed.now a.lists.now.extra.now (run_of a.n (mem_of a.m a.x.now a.z.now a.p.now) a.log.now (going_on a.s)))
    (does-then c.in_ok-r.ensures refl (does-as same c.clear-2.ensures))
