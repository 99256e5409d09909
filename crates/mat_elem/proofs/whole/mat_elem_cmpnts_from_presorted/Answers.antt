use Rattle.mat_elem.proofs.whole.Block.{answer-is}
use Rattle.mat_elem.proofs.whole.Meaning.{mat-elem}
use Rattle.mat_elem.proofs.whole.mat_elem_cmpnts_from_presorted.Goals as goal

pub returns : goal.returns
returns c =
    let a = c.args in
    mat-elem a.n a.x.now a.z.now a.re.now a.im.now a.bra a.ket (answer-is a.n a.x.now a.z.now a.re.now a.im.now a.bra a.ket c.element_between.ensures)
    c.type_inv.x c.type_inv.z c.ranges.bra.fits c.ranges.ket.fits
