-- Invariant: found so far, or found from i on, is what there is to find (`Wilds`).
-- A step takes one coefficient from "still to come" to "found"; at the end nothing is to come.
use Rattle.mat_elem.proofs.Wild.{Wilds}
use Rattle.mat_elem.proofs.number.some_wild.Given as goal

abbrev pub invariant-loop-i : goal.invariant-loop-i
invariant-loop-i g l = Wilds g.T.Number.arithmetic l.re l.im l.bad l.i
