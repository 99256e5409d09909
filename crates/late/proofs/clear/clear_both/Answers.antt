-- Listed rows and then extra rows, each through `clear`: two runs one after the other are the run over both lists (`through-append`), and a log that
-- gets full in the first ends it. Assumes nothing.
use native.Mathlib.Omega.{arith}
use mathlib.Core.Path.{refl}
use Rattle.std.specs.Prelude.{◌≡◌, Err}
use Rattle.pauli.specs.Row.{mul_row, bit_row}
use Rattle.encoding.specs.Set.{mem_of}
use Rattle.reduction.specs.Log.{capacity}
use Rattle.reduction.specs.Workers.{through, turn_c}
use Rattle.reduction.proofs.Pieces.{through-append}
use Rattle.tabled.specs.Workers.{settle}
use Rattle.late.specs.Workers.{table_rows, on, store, late_of}
use Rattle.late.proofs.Runs.{runs-going, runs_as, runs-full, runs_then}
use Rattle.late.proofs.Clearing.{turn-next, turn-as}
use Rattle.late.proofs.clear.clear_both.Goals as goal

pub clear-requires : goal.clear-requires
clear-requires c =
    record {
      turn_in = c.requires.turn_in;
      sees = (c.requires.sees.0, c.requires.sees.1);
    }

pub returns-in_err-r : goal.returns-in_err-r
returns-in_err-r c =
    let a = c.args in
    let f = turn_c (bit_row a.n) (mul_row a.n) (capacity a.log.now) a.by.c a.by.row in
    let e : c.from_residual.result ≡ Err c.in_err-r.field-0.0 = grind arith in
    rw e (runs_as (runs-full c.in_err-r.ensures (λ r. through f a.lists.now.extra.now r) refl) (through-append f a.lists.now.listed.now a.lists.now.extra.now (settle (mul_row a.n) (late_of a.n (store (mem_of a.m a.x.now a.z.now a.p.now) (mem_of table_rows a.tx.now a.tz.now a.tp.now) a.owed.now a.log.now (on a.s))))))

pub clear-requires-2 : goal.clear-requires-2
clear-requires-2 c =
    let K = c.in_ok-r.ensures in
    record {
      turn_in = turn-next c.requires.turn_in K.carries refl (runs-going K refl).1;
      sees = (c.requires.sees.0, c.requires.sees.2);
    }

pub returns : goal.returns
returns c =
    let a = c.args in
    let K = c.in_ok-r.ensures in
    let f = turn_c (bit_row a.n) (mul_row a.n) (capacity a.log.now) a.by.c a.by.row in
    runs_as (runs_then K refl (turn-as c.requires.turn_in K.carries refl (runs-going K refl).1 (λ room. through (turn_c (bit_row a.n) (mul_row a.n) room a.by.c a.by.row) a.lists.now.extra.now) c.clear-2.ensures))
    (through-append f a.lists.now.listed.now a.lists.now.extra.now (settle (mul_row a.n) (late_of a.n (store (mem_of a.m a.x.now a.z.now a.p.now) (mem_of table_rows a.tx.now a.tz.now a.tp.now) a.owed.now a.log.now (on a.s)))))
