-- The sum so far and what the look-ups to come bring are the whole, mod 4, since each takes the two lowest qubits off.
use Rattle.std.proofs.Common.{◌-◌, ◌%◌}
use Rattle.table.proofs.Walks.{Walk, ahead}
use Rattle.table.proofs.look_word.Given as goal

abbrev pub invariant-loop-done : goal.invariant-loop-done
invariant-loop-done l = Walk (ahead l.k l.lx l.lz l.rx l.rz % 4) (l.k - l.done) l.a l.b l.c l.d l.e
