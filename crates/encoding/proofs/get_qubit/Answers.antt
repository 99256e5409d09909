-- Inside both parts the two bits read are those of the qubit, which they make (`qubit-at`). Past the end of either part the unpacked row has no
-- qubit there, which is I (`past-x`, `past-z`).
use mathlib.Core.Path.{sym, ◌∙◌}
use Rattle.pauli.specs.Pauli.{of_bits}
use mathlib.Core.Path.{ap₂}
use Rattle.encoding.specs.Words.{bit_at}
use Rattle.encoding.proofs.Qubits.{qubit-at, past-x, past-z}
use Rattle.encoding.proofs.get_qubit.Goals.{else-j-x-via-then-j-x+else-j-z, else-j-x-via-else-j-x}
use Rattle.encoding.proofs.get_qubit.Goals as goal

pub returns-then-j-z : goal.returns-then-j-z
unfolding bit_at
returns-then-j-z c =
    let a = c.args in
    c.pauli_of.ensures ∙ ap₂ of_bits c.bit_of.ensures c.bit_of-then-j-z.ensures
    ∙ sym (qubit-at a.x.now a.z.now a.qubit.0 c.if-j-x.true c.if-j-z.true)

pub returns : goal.returns
returns c =
    let a = c.args in
    elim c.else-j-x.branch [
      | else-j-x-via-then-j-x+else-j-z w ↦ sym (past-z a.x.now a.z.now a.qubit.0 w.if-j-z.false)
      | else-j-x-via-else-j-x w ↦ sym (past-x a.x.now a.z.now a.qubit.0 w.if-j-x.false)
    ]
