-- `late::rows::pay` meets its contract: a row that owes nothing stays; else one product by the entry that it owes is what it stood for, and it owes
-- nothing then. Assumes nothing.
use Rattle.late.proofs.View.{pay-in, pay-nothing, pay-product}
use native.Mathlib.Omega.{arith}
use Rattle.late.proofs.rows.pay.Goals as goal

pub bounds-owed-k : goal.bounds-owed-k
bounds-owed-k c = omega (arith, c.requires.0.long, c.requires.1)

pub overflow_cast-o : goal.overflow_cast-o
overflow_cast-o c = omega (arith, c.slice_known-4-1.given c.args.k)

pub returns-then-o-eq0 : goal.returns-then-o-eq0
returns-then-o-eq0 c = pay-nothing c.requires.0 c.args.k c.requires.1 c.if-o-eq0.true

pub mul_by-requires : goal.mul_by-requires
mul_by-requires c = pay-in c.requires.0 c.args.k c.requires.1 c.words.result c.words.ensures

pub bounds-owed-k-2 : goal.bounds-owed-k-2
bounds-owed-k-2 c = omega (arith, c.requires.0.long, c.requires.1)

pub returns : goal.returns
returns c = pay-product c.requires.0 c.args.k c.requires.1 c.words.result c.words.ensures c.if-o-eq0.false c.mul_by.ensures
