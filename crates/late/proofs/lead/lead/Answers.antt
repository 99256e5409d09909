-- `late::lead::lead` meets its contract: a pivot that has paid stands for the same row as before; where the row found is the pivot itself there is no more
-- to do, else `lead_by` does the product. Assumes nothing.
use Rattle.late.proofs.Leading.{lead-next, lead-same, lead-other}
use Rattle.late.proofs.lead.lead.Goals as goal

pub pay-requires : goal.pay-requires
pay-requires c = (c.requires.lead_in.shape.owing, c.requires.lead_in.p-in)

pub returns-then-found-pivot : goal.returns-then-found-pivot
returns-then-found-pivot c = lead-same c.requires.lead_in c.requires.finds c.pay.ensures c.if-found-pivot.true

pub lead_by-requires : goal.lead_by-requires
lead_by-requires c = lead-next c.requires.lead_in c.requires.finds c.pay.ensures

pub returns : goal.returns
returns c = lead-other c.requires.lead_in c.requires.finds c.pay.ensures c.if-found-pivot.false c.lead_by.ensures
