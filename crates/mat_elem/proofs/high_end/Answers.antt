use Rattle.std.proofs.Common.{le_refl}
use Rattle.mat_elem.proofs.Places.{from-split}
use Rattle.mat_elem.proofs.high_end.Goals as goal

pub returns-then-x-guess : goal.returns-then-x-guess
returns-then-x-guess c =
    ((from-split c.args.x.now c.args.t c.requires).within, le_refl _)

pub returns-then-is_below : goal.returns-then-is_below
returns-then-is_below c =
    ((from-split c.args.x.now c.args.t c.requires).within, le_refl _)
