use Rattle.row_text.proofs.Kit.{sym, arith}
use Rattle.row_text.proofs.Sizes.{one-digit, two_digits, three-digits, four-digits}
use Rattle.row_text.proofs.fmt.digits.Goals as goal

pub returns-then-q-lt10 : goal.returns-then-q-lt10
returns-then-q-lt10 c = (sym (one-digit c.args.q c.if-q-lt10.true), omega arith)

pub returns-then-q-lt100 : goal.returns-then-q-lt100
returns-then-q-lt100 c = (sym (two_digits c.args.q (omega arith) (omega arith)), omega arith)

pub returns-then-q-lt1000 : goal.returns-then-q-lt1000
returns-then-q-lt1000 c = (sym (three-digits c.args.q (omega arith) (omega arith)), omega arith)

pub returns : goal.returns
returns c = (sym (four-digits c.args.q (omega arith) (omega arith)), omega arith)
