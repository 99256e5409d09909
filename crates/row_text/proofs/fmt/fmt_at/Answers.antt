use Rattle.row_text.proofs.Kit.{List, Pauli, subst}
use Rattle.encoding.specs.Set.{set_of}
use Rattle.row_text.specs.Calls.{TextWritten}
use Rattle.row_text.specs.Workers.{falls_short}
use Rattle.row_text.proofs.Putting.{row-ps}
use Rattle.row_text.proofs.fmt.fmt_at.Goals as goal

pub returns : goal.returns
returns c =
    let a = c.args in
    let r = c.fmt_row in
    subst (λ (ps : List Pauli). TextWritten (falls_short ps a.out.now) ps a.out.now r.new.out r.result) (row-ps a.set.now.n c.row_span-s.ensures (set_of a.set.now)) r.ensures
