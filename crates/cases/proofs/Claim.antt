-- P1 to P12 of RULES 11 and the ends of the floats: the calls' contracts allow, row by row, what it says, by computation. Assumes nothing.
-- Each row is closed: unfolding what does not compute by itself leaves `refl`.
use mathlib.Core.Path.{refl}
use lib.Ieee.{add, neg}
use Rattle.pauli.specs.Row.{pad_mul, mul_row, bit_of}
use Rattle.pauli.specs.Rows.{commute, holding, count_of}
use Rattle.encoding.specs.Words.{word, unpack, bits, unbits, join, pack, lay_rows}
use Rattle.encoding.specs.Set.{word_in, exponent_at, lay_exponents, rows_held, list, lay_in}
use Rattle.encoding.specs.Refusals.{some, some_below, bad_bits, bad_phases, answer_or}
use Rattle.cmpnt_list.specs.Calls.{count_in, commutes_with}
use Rattle.reduction.specs.Lists.{has, distinct}
use Rattle.reduction.specs.Rule.{mul_at, multiply, counted, first, clear, pivot, column_by, column, columns, reduce}
use Rattle.reduction.specs.Replay.{replay}
use Rattle.reduction.specs.Log.{units, logged}
use Rattle.reduction.specs.Capacity.{capped}
use Rattle.encoding.specs.Ranks.{by_rank, place_in, placed, joined}
use Rattle.mat_elem.specs.Terms.{falls_after}
use Rattle.mat_elem.specs.Sums.{sum_over}
use Rattle.mat_elem.specs.whole.Sums as whole
use Rattle.mat_elem.specs.float.Sums as float
use Rattle.mat_elem.specs.float.Sums.{overflows}
use Rattle.cases.specs.Table.{Table}

pub p1-to-p12 : Table
unfolding answer_or pad_mul mul_row bit_of commute holding count_of word unpack bits unbits join pack lay_rows word_in exponent_at lay_exponents rows_held list lay_in by_rank place_in placed joined some some_below bad_bits bad_phases count_in commutes_with has distinct mul_at multiply counted first clear pivot column_by column columns reduce replay units logged capped falls_after sum_over whole.element_of float.element_of overflows add neg
p1-to-p12 =
    record {
      p1 = record { one-m = refl; answer = refl; rows = refl; numbers = refl };
      p2 = record { one-m = refl; answer = refl; rows = refl; numbers = refl };
      p3 = record { one-m = refl; answer = refl; rows = refl; numbers = refl };
      signed = record { one-m = refl; answer = refl; rows = refl; numbers = refl };
      signed-none = record { one-m = refl; answer = refl; rows = refl; numbers = refl };
      p4 = record { answer = refl; state = refl };
      p5 = record { answer = refl; state = refl };
      p6 = refl;
      p6-64 = refl;
      p6-0 = refl;
      p7 = refl;
      p7-not = refl;
      p8 = record { answer = refl; rows = refl };
      p9 = record { answer = refl; number = refl; rows = refl; entries = refl };
      p10 = record { answer = refl; number = refl; rows = refl; entries = refl };
      p10-number = refl;
      p11 = refl;
      p11-real = refl;
      p11-none = refl;
      p12 = refl;
      list-order = refl;
      reversed = refl;
      twice = refl;
    }
