use Rattle.std.proofs.Common.{ap, ◌∙◌, Ok}
use Rattle.encoding.proofs.Faults.{passing}
use Rattle.cmpnt_list.specs.Calls.{get_qubit}
use Rattle.cmpnt_list.proofs.get_qubit.Goals as goal

pub returns : goal.returns
unfolding get_qubit
returns c = ap (λ p. Ok p) c.read_qubit.ensures ∙ passing _ _ c.row_fault.ensures.value c.in_ok-row_fault.was _
