-- `late::clear::true_bit` meets its contract: both words lie inside, and the bit of an exclusive or is the exclusive or of the bits. Places are
-- products of a row number and w, which the premise bounds. Assumes nothing.
use native.Mathlib.Omega.{arith}
use lib.ListN.{get_or}
use Prim.Native.Nat.{◌+◌, ◌*◌}
use Rattle.late.proofs.ColumnBits.{xor-bit}
use Rattle.late.proofs.clear.true_bit.Goals as goal

pub overflow_cast-o : goal.overflow_cast-o
overflow_cast-o c = omega (arith, c.type_inv.owed c.args.k)

pub overflow_mul-v : goal.overflow_mul-v
overflow_mul-v c = omega (arith, c.requires.0.row c.args.k c.requires.1, c.well_formed.0)

pub overflow_add-v : goal.overflow_add-v
overflow_add-v c = omega (arith, c.requires.0.row c.args.k c.requires.1, c.well_formed.0)

pub offset_bounds-col-k : goal.offset_bounds-col-k
offset_bounds-col-k c = omega (arith, c.requires.0.row c.args.k c.requires.1, c.well_formed.0)

pub bounds-col-k : goal.bounds-col-k
bounds-col-k c = omega (arith, c.requires.0.row c.args.k c.requires.1)

pub overflow_mul-v-2 : goal.overflow_mul-v-2
overflow_mul-v-2 c = omega (arith, c.requires.0.entry c.args.k c.requires.1, c.well_formed.1.1.0)

pub overflow_add-v-2 : goal.overflow_add-v-2
overflow_add-v-2 c = omega (arith, c.requires.0.entry c.args.k c.requires.1, c.well_formed.1.1.0)

pub offset_bounds-col-o : goal.offset_bounds-col-o
offset_bounds-col-o c = omega (arith, c.requires.0.entry c.args.k c.requires.1, c.well_formed.1.1.0)

pub bounds-col-o : goal.bounds-col-o
bounds-col-o c = omega (arith, c.requires.0.entry c.args.k c.requires.1)

pub overflow_shr-result : goal.overflow_shr-result
overflow_shr-result c = omega (arith, c.requires.0.bit)

pub returns : goal.returns
returns c = let a = c.args in xor-bit (get_or a.col.b.now (a.k * a.col.w + a.col.j) 0) (get_or a.col.tb.now (get_or a.owed.now a.k 0 * a.col.w + a.col.j) 0) a.col.i
