use Rattle.terms.proofs.Pieces.{turn-same, turn-zero, turn_one}
use mathlib.Core.Path.{sym, ◌∙◌}
use Rattle.terms.proofs.reduce.turn.Goals as goal

pub returns-then-k-pivot : goal.returns-then-k-pivot
returns-then-k-pivot c = turn-same c.requires.ready c.args.c c.args.pivot c.args.k c.if-k-pivot.true

pub returns-then-get_bit : goal.returns-then-get_bit
returns-then-get_bit c = turn_one c.requires.ready c.args.c c.args.pivot c.args.k c.requires.c_bound.0 c.requires.c_bound.2 c.if-k-pivot.false (sym c.if-get_bit.true ∙ c.get_bit.ensures) c.put.ensures

pub returns : goal.returns
returns c = turn-zero c.requires.ready c.args.c c.args.pivot c.args.k c.requires.c_bound.0 c.requires.c_bound.2 c.if-k-pivot.false (sym c.if-get_bit.false ∙ c.get_bit.ensures)
