-- The lists of all columns and all rows are the beginnings of two counted-up ones, of 2n and of m numbers (`up-long`). They are each once and below
-- their limits (`lists-all`), so the worker's run is the rule's on them (`leaves_all`).
use Rattle.terms.proofs.Answers.{up-long, lists-all, leaves_all}
use Rattle.encoding.specs.Limits.{max_qubits, max_rows}
use native.Mathlib.Omega.{arith}
use Prim.Native.Nat.{◌+◌}
use Rattle.terms.proofs.reduced_by.Goals as goal

pub slice_bounds-lists-end : goal.slice_bounds-lists-end
slice_bounds-lists-end c = omega (arith, up-long (max_qubits + max_qubits) c.requires.columns_value.0, c.requires.sound.few-qubits)

pub slice_bounds-lists-end-2 : goal.slice_bounds-lists-end-2
slice_bounds-lists-end-2 c = omega (arith, up-long max_rows c.requires.columns_value.1, c.requires.sound.few-rows)

pub reduced-requires : goal.reduced-requires
reduced-requires c = lists-all c.requires.sound c.requires.columns_value.0 c.requires.columns_value.1

pub returns : goal.returns
returns c = leaves_all c.requires.sound c.requires.columns_value.0 c.requires.columns_value.1 c.reduced.ensures
