-- Invariant: what was found so far, or is found from i on, is what there is to find in all terms (`Looking`).
-- A step moves one term from "still to come" to "found"; at the end nothing is to come.
use Rattle.mat_elem.proofs.Pass.{Looking}
use Rattle.mat_elem.proofs.look.Given as goal

abbrev pub invariant-loop-i : goal.invariant-loop-i
invariant-loop-i l = Looking l.x l.z l.all l.fall l.prev l.i
