use Rattle.row_text.proofs.Kit.{arith}
use Rattle.row_text.proofs.Putting.{next_fits, put-more}
use Rattle.row_text.proofs.fmt.put_row.Goals as goal

pub put_piece-at-requires : goal.put_piece-at-requires
put_piece-at-requires c = (omega arith, next_fits c.loop-q.invariant c.step-s.ensures c.requires.z_in_bounds)

pub loop-q-preserved : goal.loop-q-preserved
loop-q-preserved c = put-more c.loop-q.invariant c.step-s.ensures c.requires.z_in_bounds c.put_piece-at.ensures
