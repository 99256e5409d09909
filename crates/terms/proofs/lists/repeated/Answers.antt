-- A number that finds a mark is there twice (`marked-here`), and else marking it keeps that (`marking-next`).
use mathlib.Core.Bool.{not}
use mathlib.Core.Path.{sym, ap}
use native.Mathlib.Omega.{arith}
use lib.ListN.{length}
use Rattle.terms.proofs.Scans.{marking-start, marked-here, marking-next, marking-end, small}
use Rattle.terms.proofs.lists.repeated.Goals as goal

pub loop-number-init : goal.loop-number-init
loop-number-init c = marking-start c.args.list.now c.args.marks.now c.requires.blank

pub bounds-marks-k : goal.bounds-marks-k
bounds-marks-k c =
    let l = c.loop-number in
    omega (arith, l.auto.marks, small c.args.list.now (length c.args.marks.now) l.number-index c.requires.list_value (omega arith))

pub returns-then-marks-k-ne-NONE : goal.returns-then-marks-k-ne-NONE
returns-then-marks-k-ne-NONE c =
    let a = c.args in
    let l = c.loop-number in
    sym (ap not (marked-here a.list.now l.number-index l.marks (omega arith) l.invariant c.if-marks-k-ne-NONE.true))

pub bounds-marks-k-in-loop-number : goal.bounds-marks-k-in-loop-number
bounds-marks-k-in-loop-number c =
    let l = c.loop-number in
    omega (arith, l.auto.marks, small c.args.list.now (length c.args.marks.now) l.number-index c.requires.list_value (omega arith))

pub loop-number-preserved : goal.loop-number-preserved
loop-number-preserved c =
    let a = c.args in
    let l = c.loop-number in
    let h = small a.list.now (length a.marks.now) l.number-index c.requires.list_value (omega arith) in
    marking-next a.list.now l.number-index l.marks (omega arith) l.invariant (omega (arith, l.auto.marks, h)) c.if-marks-k-ne-NONE.false

pub returns : goal.returns
returns c =
    let a = c.args in
    let l = c.loop-number in
    sym (ap not (marking-end a.list.now l.number-index l.marks (omega arith) l.invariant))
