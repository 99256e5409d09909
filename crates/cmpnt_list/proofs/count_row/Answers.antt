use Rattle.cmpnt_list.proofs.Counting.{tallied-none, tallied-more, tallied-all}
use Rattle.cmpnt_list.proofs.count_row.Goals as goal

pub loop-i-init : goal.loop-i-init
loop-i-init c =
    tallied-none c.args.p c.args.x.now c.args.z.now c.requires.1

pub loop-i-preserved : goal.loop-i-preserved
loop-i-preserved c =
    tallied-more c.args.p c.args.x.now c.args.z.now c.requires.1 c.count_word-k.result c.loop-i.invariant c.loop-i-test.true c.count_word-k.ensures

pub returns : goal.returns
returns c =
    tallied-all c.args.p c.args.x.now c.args.z.now c.requires.1 c.loop-i.invariant c.loop-i-test.false
