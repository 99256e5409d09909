use native.Mathlib.Omega.{arith}
use mathlib.Core.Bool.{true}
use mathlib.Core.Path.{refl, ap}
use Prim.Native.Nat.{◌/◌, ◌%◌}
use lib.ListN.{get_or, set}
use Rattle.encoding.proofs.OneBit.{code-on}
use Rattle.pwl.specs.Workers.{marked}
use Rattle.pwl.proofs.testing.mark.Goals as goal

pub returns : goal.returns
unfolding marked
returns c =
    let a = c.args in
    ap (set a.marks.now (a.k / 64))
    (code-on (get_or a.marks.now (a.k / 64) 0) (a.k % 64) true (omega arith) (omega (arith, c.slice_known-1.given (a.k / 64))) refl)
