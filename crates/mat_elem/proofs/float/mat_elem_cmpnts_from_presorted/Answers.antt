use Rattle.mat_elem.proofs.float.Block.{answer-is}
use Rattle.mat_elem.proofs.float.Meaning.{mat-elem}
use Rattle.mat_elem.proofs.float.mat_elem_cmpnts_from_presorted.Goals as goal

pub returns : goal.returns
returns c =
    let a = c.args in
    mat-elem a.n a.x.now a.z.now a.re.now a.im.now a.bra a.ket c.type_inv.re c.type_inv.im
    (answer-is a.n a.x.now a.z.now a.re.now a.im.now a.bra a.ket c.element_between.ensures)
