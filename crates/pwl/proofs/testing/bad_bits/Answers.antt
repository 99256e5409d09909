-- Only the last word of a row can have a bit at n or above (`row_seen`), and where n is a multiple of 64 there is no such bit.
use mathlib.Core.Path.{sym, ◌∙◌}
use Prim.Native.Nat.{◌+◌, ◌*◌}
use lib.ListN.{drop}
use Rattle.pwl.specs.Bytes.{nums}
use Rattle.encoding.specs.Refusals.{bad_bits}
use Rattle.encoding.proofs.Spare.{high, rows_none}
use Rattle.encoding.proofs.Scan.{any-hit}
use Rattle.pwl.proofs.Round.{length-nums}
use Rattle.pwl.proofs.Tests.{row_seen}
use Rattle.pwl.proofs.testing.bad_bits.Goals as goal

pub returns-then-k-eq0 : goal.returns-then-k-eq0
unfolding bad_bits
returns-then-k-eq0 c =
    let a = c.args in
    sym (rows_none a.n a.m a.w (nums 8 a.q (drop a.at a.s.now)) (nums 8 a.q (drop (a.at + 8 * a.q) a.s.now)) c.requires.0
    (length-nums 8 a.q _ ∙ c.requires.1) (length-nums 8 a.q _ ∙ c.requires.1) c.if-k-eq0.true)

pub returns-then-above : goal.returns-then-above
unfolding bad_bits
returns-then-above c =
    let l = c.loop-r in
    let a = c.args in
    let t = c.last_word-t.ensures in
    sym (any-hit (high a.n a.w (nums 8 a.q (drop a.at a.s.now)) (nums 8 a.q (drop (a.at + 8 * a.q) a.s.now))) a.m l.r c.loop-r-test.true
    (sym (row_seen a.n a.m a.w a.q a.at a.s.now c.requires.0 c.requires.1 l.r _ _ _ c.if-k-eq0.false c.loop-r-test.true t.0 t.1 c.word.ensures c.word-in-loop-r.ensures)
    ∙ sym c.above.ensures ∙ c.if-above.true))
