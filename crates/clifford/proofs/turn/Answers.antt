-- `clifford::turn` meets its contract: the two bits of the qubit are turned, and the sign, which is bit 2r + 1 of the phase words. The words that the leaf
-- left are of 64 bits, as all lent words are. Assumes nothing.
use mathlib.Core.Path.{ap, ◌∙◌}
use Prim.Native.Nat.{ℕ}
use Rattle.one_qubit.specs.Leaves.{with_turned}
use Rattle.clifford.proofs.Rows.{turned-row}
use Rattle.clifford.proofs.turn.Goals as goal

pub returns : goal.returns
returns c =
    let a = c.args in
    turned-row a.n a.r.0 a.q.0 c.requires a.by.x a.by.z a.sign
    (c.turn_bit.ensures ∙ ap (λ (j : ℕ). with_turned a.x.now j a.by.x) c.place-k.ensures)
    (c.turn_bit-2.ensures ∙ ap (λ (j : ℕ). with_turned a.z.now j a.by.z) c.place-k.ensures)
    c.turn_bit-3.ensures
    c.type_inv.x
    c.type_inv.z
    c.type_inv.phases
