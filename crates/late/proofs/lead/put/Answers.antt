-- `late::lead::put` meets its contract: without room nothing is done; else the rows are multiplied, and the entry stands in the two units past the
-- last one. Assumes nothing.
use native.Mathlib.Omega.{arith}
use mathlib.Core.Path.{refl}
use lib.ListN.{length-set}
use Rattle.late.specs.Workers.{kept, made}
use Rattle.late.proofs.View.{rows-by}
use Rattle.late.proofs.Leading.{by-words}
use Rattle.late.proofs.lead.put.Goals as goal

pub returns-then-log-e : goal.returns-then-log-e
returns-then-log-e c = kept (omega arith) refl refl refl

pub mul_rows-requires : goal.mul_rows-requires
mul_rows-requires c = rows-by c.requires.rows c.requires.rows c.words.result c.words.ensures c.args.a c.args.a c.args.b (omega arith) c.requires.a_in c.requires.b-in

pub bounds-log-k-2 : goal.bounds-log-k-2
bounds-log-k-2 c = simp length-set (omega arith)

pub returns : goal.returns
returns c = made (omega arith) (by-words c.args.n c.words.ensures c.mul_rows.ensures) refl refl
