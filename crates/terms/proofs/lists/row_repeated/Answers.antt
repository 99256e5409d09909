use Rattle.encoding.specs.Limits.{max_rows}
use Rattle.late.proofs.Scratch.{zeros}
use Rattle.std.proofs.Common.{rules}
use Rattle.terms.proofs.lists.row_repeated.Goals as goal

pub repeated-requires : goal.repeated-requires
repeated-requires c =
    record {
      list_value = search rules;
      blank = zeros max_rows;
    }
