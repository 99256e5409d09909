use Rattle.late.proofs.View.{fill_start, fill-in, fill_more, fill_end}
use native.Mathlib.Omega.{arith}
use Rattle.late.proofs.rows.fill.Goals as goal

pub loop-i-init : goal.loop-i-init
loop-i-init c = fill_start c.requires.ready c.requires.at

pub overflow_add-i : goal.overflow_add-i
overflow_add-i c = omega (arith, c.loop-i-test.true, c.requires.ready.room)

pub mul_by-requires : goal.mul_by-requires
mul_by-requires c = fill-in c.requires.ready c.args.w c.requires.words c.loop-i.invariant c.loop-i-test.true

pub loop-i-preserved : goal.loop-i-preserved
loop-i-preserved c = fill_more c.requires.ready c.args.w c.requires.words c.loop-i.invariant c.loop-i-test.true c.mul_by.ensures

pub returns : goal.returns
returns c = fill_end c.requires.ready c.loop-i.invariant c.loop-i-test.false
