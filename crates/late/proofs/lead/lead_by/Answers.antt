-- `late::lead::lead_by` meets its contract: the row found has paid, so the product of the two rows in memory is the product of the rows that they stand
-- for. Assumes nothing.
use Rattle.late.proofs.Leading.{put_in, lead-makes}
use Rattle.late.proofs.lead.lead_by.Goals as goal

pub pay-requires : goal.pay-requires
pay-requires c = (c.requires.shape.owing, c.requires.f-in)

pub put-requires : goal.put-requires
put-requires c = put_in c.requires c.pay.ensures

pub returns : goal.returns
returns c = lead-makes c.requires c.pay.ensures c.put.ensures
