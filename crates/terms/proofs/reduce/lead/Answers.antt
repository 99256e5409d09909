use Rattle.terms.proofs.Pieces.{lead-same, lead-other}
use Rattle.terms.proofs.reduce.lead.Goals as goal

pub returns-then-found-pivot : goal.returns-then-found-pivot
returns-then-found-pivot c = lead-same c.requires.ready c.args.pivot c.args.found c.if-found-pivot.true

pub returns : goal.returns
returns c = lead-other c.requires.ready c.args.pivot c.args.found c.if-found-pivot.false c.put.ensures
