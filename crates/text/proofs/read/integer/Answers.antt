-- A minus or none, and what is read of the magnitude: one of the four lemmas of Places. A value stands as to_z (of_z z) in the needs.
use Rattle.text.proofs.Kit.{arith, rules}
use mir.Syntax.{w32}
use mir.Val.{SFits}
use mir.Facts.{to_z_pos, to_z-of_z}
use Rattle.text.proofs.Places.{plain-none, plain, minus-none, with-minus}
use Rattle.text.proofs.read.integer.Goals as goal

pub returns-in_err-m : goal.returns-in_err-m
returns-in_err-m c = rw c.from_residual.ensures (minus-none 2147483647 _ _ c.in-Some.ensures c.in_err-m.ensures.read)

pub returns-in-Some : goal.returns-in-Some
returns-in-Some c =
    let f : SFits w32 c.negated.result = search rules in
    rw (to_z-of_z f, c.negated.ensures) (with-minus 2147483647 _ _ c.in-Some.ensures c.in_ok-m.ensures.read)

pub returns-in_err-m-2 : goal.returns-in_err-m-2
returns-in_err-m-2 c = rw c.from_residual-in_err-m-2.ensures (plain-none 2147483647 c.args.s.now c.args.at c.in_default.ensures c.in_err-m-2.ensures.read)

pub returns : goal.returns
returns c =
    let l = c.in_ok-m-2.ensures.low in
    rw (to_z_pos w32 {n = c.in_ok-m-2.m} (omega (arith, l))) (plain 2147483647 _ _ c.in_default.ensures c.in_ok-m-2.ensures.read)
