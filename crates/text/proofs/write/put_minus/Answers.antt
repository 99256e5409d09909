-- The digits are counted and a byte more has room, so that both pieces fit (Adding.with_byte); else nothing is written.
-- Assumes nothing.
use Rattle.text.proofs.Kit.{◌∷◌, arith}
use Rattle.text.specs.Numbers.{numeral}
use Rattle.text.proofs.Writing.{length-numeral, no_room}
use Rattle.text.proofs.Adding.{with_byte}
use Rattle.text.proofs.write.put_minus.Goals as goal

pub returns-in_err-room : goal.returns-in_err-room
returns-in_err-room c =
    let m = c.args.m in
    rw c.from_residual.ensures
    (no_room (45 ∷ numeral 10 m) _ _ (omega (arith, length-numeral 10 m, c.size.ensures.0)) c.in_err-room.ensures)

pub returns : goal.returns
returns c =
    let m = c.args.m in
    with_byte 45 (numeral 10 m) _ _ _ _ (omega (arith, length-numeral 10 m, c.size.ensures.0, c.in_ok-room.ensures.0)) c.in_ok-at.ensures _ c.put_decimal.ensures
