-- Rows below k owe nothing, and memory stands for the same rows as before (`PayingAll`): a row that pays stands for what it stood for, and pays
-- at most once. Assumes nothing.
use Rattle.late.specs.Workers.{table_rows}
use Rattle.late.proofs.View.{PayingAll}
use Rattle.encoding.specs.Set.{mem_of}
use Rattle.late.proofs.rows.pay_all.Given as goal

abbrev pub invariant-loop-k : goal.invariant-loop-k
invariant-loop-k l = PayingAll l.n (mem_of l.m l.initial.x l.initial.z l.initial.p) l.initial.owed (mem_of table_rows l.tx l.tz l.tp) (mem_of l.m l.x l.z l.p) l.owed l.k
