use Rattle.row_text.proofs.InRow.{row-parsed}
use Rattle.row_text.proofs.parse.parse_at.Goals as goal

pub returns : goal.returns
returns c =
    let a = c.args in
    let p = c.parse_row in
    record { told = p.ensures.told; rows = row-parsed a.n c.requires.sound.valid a.r a.s.now c.row_span-span.ensures p.auto.x p.auto.z p.ensures }
