-- The bits, spread out, are the marks of lists in memory, and a bit that is set is one of these set: so a number is marked once, and found at its second place.
use native.Mathlib.Omega.{arith}
use mathlib.Core.Bool.{not}
use mathlib.Core.Path.{sym, ap, ◌∙◌, subst}
use mathlib.Core.List.{List}
use Prim.Native.Nat.{ℕ, ◌+◌, ◌*◌}
use lib.ListN.{length, drop}
use Rattle.pwl.specs.Bytes.{nums}
use Rattle.terms.proofs.Scans.{Marking, marking-start}
use Rattle.pwl.proofs.Tests.{mark-there, mark-found, mark-next, mark-end}
use Rattle.pwl.proofs.Marks.{spread, spread-long, spread-blank, on-found, off-found, spread-marked}
use Rattle.pwl.proofs.testing.marked_twice.Goals as goal

pub loop-i-init : goal.loop-i-init
loop-i-init c =
    let a = c.args in
    marking-start (nums 2 a.count (drop a.at a.s.now)) (spread a.marks.now) (spread-blank a.marks.now c.requires.blank)

pub returns-then-bit_in : goal.returns-then-bit_in
returns-then-bit_in c =
    let a = c.args in
    let l = c.loop-i in
    let t = c.loop-i-test.true in
    let e = c.two-k.ensures.0 in
    let g = mark-there a.count a.at a.s.now l.i t e (64 * length a.marks.now) c.requires.s_value in
    sym (ap not (mark-found a.count a.at a.s.now l.i t e (spread l.marks) l.invariant
    (on-found l.marks _ (omega (arith, g)) (sym c.bit_in.ensures ∙ c.if-bit_in.true))))

pub mark-requires : goal.mark-requires
mark-requires c =
    let a = c.args in
    let l = c.loop-i in
    let g = mark-there a.count a.at a.s.now l.i c.loop-i-test.true c.two-k.ensures.0 (64 * length a.marks.now) c.requires.s_value in
    omega (arith, g)

pub loop-i-preserved : goal.loop-i-preserved
loop-i-preserved c =
    let a = c.args in
    let l = c.loop-i in
    let t = c.loop-i-test.true in
    let w = c.two-k in
    let e = c.mark.ensures in
    let g = mark-there a.count a.at a.s.now l.i t w.ensures.0 (64 * length a.marks.now) c.requires.s_value in
    let f = off-found l.marks w.result (omega (arith, g)) (sym c.bit_in.ensures ∙ c.if-bit_in.false) in
    let m = mark-next a.count a.at a.s.now l.i t w.ensures.0 (spread l.marks) l.invariant (omega (arith, g, spread-long l.marks)) f in
    subst (λ (k : List ℕ). Marking (nums 2 a.count (drop a.at a.s.now)) (l.i + 1) k)
    (spread-marked w.result l.marks (omega (arith, g)) ∙ ap spread (sym e)) m

pub returns : goal.returns
returns c =
    let a = c.args in
    let l = c.loop-i in
    sym (ap not (mark-end a.count a.at a.s.now l.i (spread l.marks) c.loop-i-test.false l.invariant))
