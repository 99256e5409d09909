-- The product is made in one part of the lent words, the same in all six: that part is the leaf's product, and what lies before and behind it is as it
-- was (`part-product`).
use Rattle.products.proofs.PartLaws.{part-product}
use Rattle.cmpnt_list.proofs.mul_part.Goals as goal

pub returns : goal.returns
returns c =
    let s = c.args.s in
    let r = c.mul_op_op in
    part-product s.start s.end c.requires.a_le_e.0 c.requires.a_le_e.1 c.requires.same_length r.auto.ox r.auto.oz r.ensures
