-- Entries below o and entry o are as they were, and those from o + 1 up to o + i are products by the pivot (`Filling`): only entry i + o is
-- written. Assumes nothing.
use Rattle.late.specs.Workers.{table_rows}
use Rattle.late.proofs.View.{Filling}
use Rattle.encoding.specs.Set.{mem_of}
use Rattle.late.proofs.rows.fill.Given as goal

abbrev pub invariant-loop-i : goal.invariant-loop-i
invariant-loop-i l = Filling l.n l.o l.a.0 (mem_of table_rows l.initial.tx l.initial.tz l.initial.tp) (mem_of l.m l.x l.z l.p) (mem_of table_rows l.tx l.tz l.tp) l.i
