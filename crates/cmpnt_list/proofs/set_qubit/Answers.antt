-- Where nothing is refused the set is sound, and row and qubit are below their limits; what the worker leaves is the set with that qubit.
use mathlib.Core.Path.{◌∙◌}
use Rattle.encoding.specs.Limits.{words_of}
use Rattle.encoding.proofs.Faults.{passing, made}
use Rattle.encoding.proofs.Memory.{bare-sound}
use Rattle.cmpnt_list.proofs.OneQubit.{with-exponents}
use Rattle.cmpnt_list.proofs.set_qubit.Goals as goal

pub write_qubit-requires-clause-sound : goal.write_qubit-requires-clause-sound
write_qubit-requires-clause-sound c = bare-sound c.in_ok-row_fault.ensures.readable.ready

pub returns : goal.returns
returns c =
    let a = c.args in
    let k = c.in_ok-row_fault.ensures.readable in
    let e = c.row_fault.ensures.value in
    record {
      answer = passing _ _ e c.in_ok-row_fault.was _;
      rows = with-exponents a.n (words_of a.n) k.ready.valid a.row.0 a.qubit.0 a.pauli c.write_qubit.ensures ∙ made _ _ e c.in_ok-row_fault.was _ _;
    }
