-- The two parts stand by rank (`matrix-parts`); where neither is refused, the set is sound and the matrix has its size (`matrix-asked`).
use Rattle.encoding.specs.Set.{set_of}
use Rattle.encoding.specs.Refusals.{set_lines}
use Rattle.encoding.proofs.Ranks.{both-parts}
use Rattle.cmpnt_list.specs.Calls.{matrix_lines}
use Rattle.cmpnt_list.proofs.Tests.{matrix-parts, matrix-asked}
use Rattle.cmpnt_list.proofs.matrix_fault.Goals as goal

pub returns : goal.returns
returns c =
    let s = c.args.set.now in
    record {
      value = both-parts (set_lines s.n (set_of s)) (matrix_lines s.m c.args.size) (matrix-parts s.n (set_of s) s.m c.args.size) c.set_fault.ensures.value c.square_fault.ensures c.smaller.ensures;
      none = matrix-asked s.n (set_of s) c.args.size c.set_fault.ensures.value c.square_fault.ensures c.smaller.ensures c.set_fault.ensures.valid;
    }
