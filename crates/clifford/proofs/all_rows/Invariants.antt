-- Rows below r are conjugated and the others as they were (`Doing`); the contract of `gate_row` moves it by one row, and at the end it is every row. Assumes
-- nothing.
use Rattle.encoding.specs.Set.{mem_of}
use Rattle.clifford.proofs.Loop.{Doing}
use Rattle.clifford.proofs.all_rows.Given as goal

abbrev pub invariant-loop-r : goal.invariant-loop-r
invariant-loop-r l = Doing l.n l.g (mem_of l.m l.initial.x l.initial.z l.initial.phases) (mem_of l.m l.x l.z l.phases) l.r
