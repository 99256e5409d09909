-- Each piece is written behind the one before it, which the length asked for leaves room for. Assumes nothing.
use Rattle.text.specs.Numbers.{numeral}
use native.Mathlib.Omega.{arith}
use Rattle.verdict.proofs.Lines.{digits-most, fits, long-as, in-turn}
use Rattle.verdict.proofs.put_numbered.Goals as goal

pub unwrap-at-requires-2 : goal.unwrap-at-requires-2
unwrap-at-requires-2 c =
    let x = rw c.unwrap-at.ensures at c.put_text.ensures in
    fits _ _ _ _ _ (omega (arith, c.requires, digits-most c.args.k, x.place, long-as x)) c.put_decimal.ensures

pub unwrap-requires : goal.unwrap-requires
unwrap-requires c =
    let x = rw c.unwrap-at.ensures at c.put_text.ensures in
    let y = rw c.unwrap-at-2.ensures at c.put_decimal.ensures in
    fits _ _ _ _ _ (omega (arith, c.requires, digits-most c.args.k, x.place, long-as x, y.place, long-as y)) c.put_text-2.ensures

pub returns : goal.returns
returns c =
    in-turn _ (numeral 10 c.args.k) _
    (rw c.unwrap-at.ensures at c.put_text.ensures)
    (rw c.unwrap-at-2.ensures at c.put_decimal.ensures)
    (rw c.unwrap.ensures at c.put_text-2.ensures)
