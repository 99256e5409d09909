use Rattle.row_text.proofs.Kit.{eqb, eqb-true, and_left, and_right, get_or, ◌/◌, arith}
use Rattle.row_text.proofs.Putting.{none_from}
use Rattle.row_text.proofs.fmt.starts_empty.Goals as goal

pub returns : goal.returns
returns c =
    let a = c.args in
    let u = eqb (get_or a.x.now (a.q / 64) 0) 0 in
    let v = eqb (get_or a.z.now (a.q / 64) 0) 0 in
    λ e. none_from a.x.now a.z.now a.q c.if-q-ne0.false (omega arith) (omega arith) (eqb-true _ 0 (and_left u v e)) (eqb-true _ 0 (and_right u v e))
