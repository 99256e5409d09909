-- A return for each line, 6, 7 and 15, each after those before it have failed. The marks of a repeated number have a place for each number, since
-- 6 has failed and the limits of the tables are no smaller than m and 2n (`raised`).
use Rattle.encoding.specs.Limits.{max_qubits, max_rows}
use Rattle.terms.proofs.Scans.{raised, large_is, no-large, fault-6, fault-7, fault-15}
use mathlib.Core.Bool.{true, false}
use mathlib.Core.Path.{sym, ap, ◌∙◌}
use Rattle.encoding.specs.Refusals.{answer_or, done_or}
use Prim.Native.Nat.{◌+◌}
use native.Mathlib.Omega.{arith}
use Rattle.terms.proofs.lists.lists_fault.Goals as goal

pub returns-then-a-b : goal.returns-then-a-b
unfolding answer_or
returns-then-a-b c =
    let a = c.args in
    ap done_or (fault-6 a.n a.m a.lists.now.order.now a.lists.now.listed.now a.lists.now.extra.now (sym (large_is a.n a.m a.lists.now.order.now a.lists.now.listed.now a.lists.now.extra.now c.too_large-a.ensures c.too_large-b.ensures c.too_large-c.ensures) ∙ c.if-a-b.true))

pub row_repeated-requires : goal.row_repeated-requires
row_repeated-requires c =
    let a = c.args in
    raised a.lists.now.listed.now a.m max_rows (no-large a.n a.m a.lists.now.order.now a.lists.now.listed.now a.lists.now.extra.now (sym (large_is a.n a.m a.lists.now.order.now a.lists.now.listed.now a.lists.now.extra.now c.too_large-a.ensures c.too_large-b.ensures c.too_large-c.ensures) ∙ c.if-a-b.false)).1 c.requires.1

pub returns-then-row_repeated : goal.returns-then-row_repeated
unfolding answer_or
returns-then-row_repeated c =
    let a = c.args in
    ap done_or (fault-7 a.n a.m a.lists.now.order.now a.lists.now.listed.now a.lists.now.extra.now (sym (large_is a.n a.m a.lists.now.order.now a.lists.now.listed.now a.lists.now.extra.now c.too_large-a.ensures c.too_large-b.ensures c.too_large-c.ensures) ∙ c.if-a-b.false) (sym c.row_repeated.ensures ∙ c.if-row_repeated.true))

pub column_repeated-requires : goal.column_repeated-requires
column_repeated-requires c =
    let a = c.args in
    let h = c.requires.0 in
    raised a.lists.now.order.now (a.n + a.n) (max_qubits + max_qubits) (no-large a.n a.m a.lists.now.order.now a.lists.now.listed.now a.lists.now.extra.now (sym (large_is a.n a.m a.lists.now.order.now a.lists.now.listed.now a.lists.now.extra.now c.too_large-a.ensures c.too_large-b.ensures c.too_large-c.ensures) ∙ c.if-a-b.false)).0 (omega (arith, h))

pub returns-then-column_repeated : goal.returns-then-column_repeated
unfolding answer_or
returns-then-column_repeated c =
    let a = c.args in
    ap done_or (fault-15 a.n a.m a.lists.now.order.now a.lists.now.listed.now a.lists.now.extra.now true (sym (large_is a.n a.m a.lists.now.order.now a.lists.now.listed.now a.lists.now.extra.now c.too_large-a.ensures c.too_large-b.ensures c.too_large-c.ensures) ∙ c.if-a-b.false) (sym c.row_repeated.ensures ∙ c.if-row_repeated.false) (sym c.column_repeated.ensures ∙ c.if-column_repeated.true))

pub returns : goal.returns
unfolding answer_or
returns c =
    let a = c.args in
    ap done_or (fault-15 a.n a.m a.lists.now.order.now a.lists.now.listed.now a.lists.now.extra.now false (sym (large_is a.n a.m a.lists.now.order.now a.lists.now.listed.now a.lists.now.extra.now c.too_large-a.ensures c.too_large-b.ensures c.too_large-c.ensures) ∙ c.if-a-b.false) (sym c.row_repeated.ensures ∙ c.if-row_repeated.false) (sym c.column_repeated.ensures ∙ c.if-column_repeated.false))
