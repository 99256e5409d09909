use Prim.Native.Nat.{◌+◌}
use Rattle.encoding.specs.Limits.{max_qubits}
use Rattle.late.proofs.Scratch.{zeros}
use Rattle.std.proofs.Common.{rules}
use Rattle.terms.proofs.lists.column_repeated.Goals as goal

pub repeated-requires : goal.repeated-requires
repeated-requires c =
    record {
      list_value = search rules;
      blank = zeros (max_qubits + max_qubits);
    }
