-- The test of the columns from the place come to, with the listed rows from place t on still without a pivot column, is the test of the whole order.
use mathlib.Core.List.{◌++◌}
use mathlib.Core.Path.{◌≡◌}
use lib.ListN.{drop}
use Rattle.reduction.specs.Form.{reduced_from}
use Rattle.terms.specs.Workers.{bit_in}
use Rattle.replay.specs.Workers.{self}
use Rattle.replay.proofs.form.is_reduced.Given as goal

abbrev pub invariant-loop-c : goal.invariant-loop-c
invariant-loop-c l =
    reduced_from (bit_in l.n l.x l.z) self (l.lists.listed.now ++ l.lists.extra.now) (drop l.t l.lists.listed.now) (drop l.c-index l.lists.order.now) ≡ reduced_from (bit_in l.n l.x l.z) self (l.lists.listed.now ++ l.lists.extra.now) l.lists.listed.now l.lists.order.now
