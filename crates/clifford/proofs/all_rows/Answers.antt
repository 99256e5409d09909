use native.Mathlib.Omega.{arith}
use mathlib.Core.Path.{refl}
use Rattle.clifford.proofs.Loop.{doing-more, doing-all}
use Rattle.clifford.proofs.all_rows.Goals as goal

pub loop-r-preserved : goal.loop-r-preserved
loop-r-preserved c = doing-more c.args.n c.args.g c.loop-r.r c.loop-r.invariant refl (omega arith) c.gate_row.ensures

pub returns : goal.returns
returns c = doing-all c.args.n c.args.g c.loop-r.r c.loop-r.invariant refl (omega arith)
