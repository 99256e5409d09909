-- Each number of the list is below the length of the table, which stays; marking a number is one place more.
use native.Mathlib.Omega.{arith}
use lib.ListN.{length}
use Rattle.terms.proofs.Scans.{small}
use Rattle.replay.proofs.Marks.{marking-next, marking-end}
use Rattle.replay.proofs.entries.mark.Goals as goal

pub bounds-marks-number : goal.bounds-marks-number
bounds-marks-number c =
    let a = c.args in
    let l = c.loop-number in
    omega (arith, l.auto.marks, small a.list.now (length a.marks.now) l.number-index c.requires (omega arith))

pub loop-number-preserved : goal.loop-number-preserved
loop-number-preserved c =
    let a = c.args in
    let l = c.loop-number in
    let h = small a.list.now (length a.marks.now) l.number-index c.requires (omega arith) in
    marking-next a.list.now a.value a.marks.now l.number-index l.marks (omega arith) (omega (arith, l.auto.marks, h)) l.invariant

pub returns : goal.returns
returns c =
    let a = c.args in
    let l = c.loop-number in
    marking-end a.list.now a.value a.marks.now l.number-index l.marks (omega arith) l.invariant
