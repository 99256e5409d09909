use Rattle.replay.proofs.Marks.{zeros}
use Rattle.std.proofs.Common.{rules}
use Rattle.pwl.proofs.testing.twice.Goals as goal

pub marked_twice-requires : goal.marked_twice-requires
marked_twice-requires c =
    record {
      count_in_bounds = search rules;
      s_value = search rules;
      blank = zeros 128;
    }
