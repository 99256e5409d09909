-- `late::clear::turn` meets its contract. The pivot is passed over; where there is room, `owe` writes the entry of a row with the bit, or nothing; where there
-- is none, a row with the bit ends the run. Assumes nothing.
use native.Mathlib.Omega.{arith}
use Rattle.late.proofs.Turning.{reads_of, turn-pivot, turn-off, owe-in, turn_owed, stay-does}
use Rattle.late.proofs.clear.turn.Goals as goal

pub returns-then-k-by : goal.returns-then-k-by
returns-then-k-by c = turn-pivot c.requires.turn_in c.args.k c.requires.sees.1 c.if-k-by.true

pub true_bit-on-requires : goal.true_bit-on-requires
true_bit-on-requires c =
    (reads_of c.requires.turn_in.shape c.requires.turn_in.c-in c.requires.sees.0, omega (arith, c.requires.turn_in.shape.owing.long, c.requires.sees.1))

pub owe-requires : goal.owe-requires
owe-requires c =
    owe-in c.requires.turn_in c.args.k c.requires.sees.1 c.if-k-by.false c.requires.sees.0 c.true_bit-on.ensures c.if-e-log.true

pub returns-then-e-log : goal.returns-then-e-log
returns-then-e-log c =
    turn_owed c.requires.turn_in c.args.k c.requires.sees.1 c.if-k-by.false c.requires.sees.0 c.true_bit-on.ensures c.if-e-log.true c.owe.ensures

pub returns-then-on : goal.returns-then-on
returns-then-on c =
    stay-does c.requires.turn_in c.args.k c.requires.sees.1 c.if-k-by.false c.requires.sees.0 c.true_bit-on.ensures c.if-on.true c.if-e-log.false

pub returns : goal.returns
returns c =
    turn-off c.requires.turn_in c.args.k c.requires.sees.1 c.if-k-by.false c.requires.sees.0 c.true_bit-on.ensures c.if-on.false
