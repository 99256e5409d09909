-- `one_qubit::turn_bit` meets its contract. Assumes nothing.
use mathlib.Core.Path.{ap, sym}
use Prim.Native.Nat.{ℕ, ◌/◌}
use lib.ListN.{set}
use lib.Seq.{set_out}
use Rattle.encoding.specs.Words.{bit_at}
use Rattle.one_qubit.specs.Leaves.{with_turned}
use Rattle.one_qubit.proofs.turn_bit.Goals as goal

pub returns-then-j-x : goal.returns-then-j-x
unfolding with_turned bit_at
returns-then-j-x c =
    let a = c.args in
    ap (λ (v : ℕ). set a.x.now (a.q / 64) v) c.turned.ensures

pub returns-else-j-x : goal.returns-else-j-x
unfolding with_turned
returns-else-j-x c = sym (set_out _ _ _ c.if-j-x.false)
