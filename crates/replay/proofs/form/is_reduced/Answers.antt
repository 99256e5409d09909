-- A column is passed over, or takes a pivot, or ends it with no (`test-next`).
use mathlib.Core.List.{◌++◌}
use mathlib.Core.Path.{sym, ap, ◌∙◌}
use native.Mathlib.Omega.{arith}
use Prim.Native.Nat.{◌+◌}
use lib.ListN.{drop}
use Rattle.reduction.specs.Form.{reduced}
use Rattle.terms.specs.Workers.{bit_in}
use Rattle.replay.specs.Workers.{self, tested_from}
use Rattle.replay.proofs.Looks.{test-next, test-end}
use Rattle.replay.proofs.form.is_reduced.Goals as goal

pub returns-in_default : goal.returns-in_default
unfolding reduced
returns-in_default c =
    let a = c.args in
    let l = c.loop-c in
    let d = c.place in
    let all = a.lists.now.listed.now ++ a.lists.now.extra.now in
    let e = test-next (bit_in a.n a.x.now a.z.now) self all a.lists.now.listed.now a.lists.now.order.now l.t l.c-index (tested_from a.n a.x.now a.z.now a.lists.now.listed.now a.lists.now.extra.now d.result) (omega arith) d.ensures in
    sym (sym l.invariant ∙ e ∙ ap (λ r. tested_from a.n a.x.now a.z.now a.lists.now.listed.now a.lists.now.extra.now r (drop (l.c-index + 1) a.lists.now.order.now)) c.in_default.is)

pub returns : goal.returns
unfolding reduced
returns c =
    let a = c.args in
    let l = c.loop-c in
    let all = a.lists.now.listed.now ++ a.lists.now.extra.now in
    test-end (bit_in a.n a.x.now a.z.now) self all a.lists.now.listed.now a.lists.now.order.now l.t l.c-index (omega arith) ∙ l.invariant
