use Rattle.terms.proofs.Columns.{bit-many, bit-far, bit-x, bit-z}
use native.Mathlib.Omega.{arith}
use Rattle.terms.proofs.rows.get_bit.Goals as goal

pub returns-then-n-gt-MAX_QUBITS : goal.returns-then-n-gt-MAX_QUBITS
returns-then-n-gt-MAX_QUBITS c = let a = c.args in bit-many a.n a.x.now a.z.now a.k.0 a.c (omega arith)

pub returns-then-k-ge-MAX_ROWS : goal.returns-then-k-ge-MAX_ROWS
returns-then-k-ge-MAX_ROWS c = let a = c.args in bit-far a.n a.x.now a.z.now a.k.0 a.c (omega arith) (omega arith)

pub returns-then-c-n : goal.returns-then-c-n
returns-then-c-n c = let a = c.args in bit-x a.n a.x.now a.z.now a.k.0 a.c _ _ (omega arith) (omega arith) c.words-w.ensures (omega arith) c.row_bit.ensures

pub returns : goal.returns
returns c = let a = c.args in bit-z a.n a.x.now a.z.now a.k.0 a.c _ _ (omega arith) (omega arith) c.words-w.ensures (omega arith) c.row_bit-2.ensures
