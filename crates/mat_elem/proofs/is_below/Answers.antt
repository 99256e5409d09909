use Rattle.mat_elem.proofs.Places.{below-start}
use Rattle.mat_elem.proofs.is_below.Goals as goal

pub returns : goal.returns
returns c =
    below-start c.args.x.now c.args.t c.requires.0 c.args.k c.requires.1
