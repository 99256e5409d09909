-- A word is made and its exponent added, so what is left is one word less; the exponent is at most 3 a word, so the sum fits.
use Rattle.std.proofs.Common.{arith}
use Rattle.products.proofs.ActLaws.{turned_more, turned-all}
use Rattle.products.proofs.act_row.Goals as goal

pub loop-i-preserved : goal.loop-i-preserved
loop-i-preserved c =
    turned_more c.args.lx.now c.args.lz.now c.args.st.now c.requires.0 c.requires.1 c.mul_op_state_phase_u64-e.result c.loop-i.invariant c.loop-i-test.true c.mul_op_state_phase_u64-e.ensures

pub returns : goal.returns
returns c =
    turned-all c.args.lx.now c.args.lz.now c.args.st.now c.requires.0 c.requires.1 c.loop-i.invariant (omega arith) c.type_inv.lx c.slice_known-1.given
