-- If no entry fits, all is as it was and the run is full (`put_full`). Else two units are written behind the last entry and the product is made: the
-- log has one entry more and the rows are the product's (`put-done`).
use Rattle.terms.proofs.Steps.{put_full, put-done}
use native.Mathlib.Omega.{arith}
use lib.ListN.{length-set}
use Rattle.terms.proofs.reduce.put.Goals as goal

pub returns-then-log-k : goal.returns-then-log-k
returns-then-log-k c = put_full c.requires.ready c.args.a c.args.b (omega arith)

pub bounds-log-h-2 : goal.bounds-log-h-2
bounds-log-h-2 c = simp length-set (omega arith)

pub returns : goal.returns
returns c = put-done c.requires.ready c.args.a c.args.b c.imul_unchecked.ensures.p_value c.requires.a_lt_m.0 c.requires.a_lt_m.1 (omega arith)
