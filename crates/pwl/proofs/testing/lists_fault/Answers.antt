-- A return for each line, 6, 7 and 15, each after those before it have failed.
-- Where 6 has failed, every number has its mark's place.
use mathlib.Core.Bool.{true, false}
use mathlib.Core.Path.{sym, ap, ◌∙◌}
use Rattle.encoding.specs.Refusals.{answer_or, done_or}
use lib.ListN.{drop}
use Rattle.terms.proofs.Scans.{fault-6, fault-7, fault-15}
use Rattle.pwl.specs.Bytes.{nums}
use Rattle.pwl.proofs.Tests.{large-seen, rows-small, columns-small}
use Rattle.pwl.proofs.testing.lists_fault.Goals as goal

pub returns-then-i-j : goal.returns-then-i-j
unfolding answer_or
returns-then-i-j c =
    let a = c.args in
    let o = nums 2 a.a (drop 41 a.s.now) in
    let l = nums 2 a.b (drop a.l a.s.now) in
    let e = nums 2 a.c (drop a.e a.s.now) in
    ap done_or (fault-6 a.n a.m o l e (large-seen a.n a.m o l e c.too_large-i.ensures c.too_large-j.ensures c.too_large-k.ensures c.if-i-j.true))

pub twice-requires : goal.twice-requires
twice-requires c =
    let a = c.args in
    let o = nums 2 a.a (drop 41 a.s.now) in
    let l = nums 2 a.b (drop a.l a.s.now) in
    let e = nums 2 a.c (drop a.e a.s.now) in
    (c.requires.a_in_bounds.1, rows-small a.n a.m o l e c.too_large-i.ensures c.too_large-j.ensures c.too_large-k.ensures c.if-i-j.false c.requires.n_le_max_qubits.1)

pub returns-then-twice : goal.returns-then-twice
unfolding answer_or
returns-then-twice c =
    let a = c.args in
    let o = nums 2 a.a (drop 41 a.s.now) in
    let l = nums 2 a.b (drop a.l a.s.now) in
    let e = nums 2 a.c (drop a.e a.s.now) in
    ap done_or (fault-7 a.n a.m o l e (large-seen a.n a.m o l e c.too_large-i.ensures c.too_large-j.ensures c.too_large-k.ensures c.if-i-j.false) (sym c.twice.ensures ∙ c.if-twice.true))

pub twice-requires-2 : goal.twice-requires-2
twice-requires-2 c =
    let a = c.args in
    let o = nums 2 a.a (drop 41 a.s.now) in
    let l = nums 2 a.b (drop a.l a.s.now) in
    let e = nums 2 a.c (drop a.e a.s.now) in
    (c.requires.a_in_bounds.0, columns-small a.n a.m o l e c.too_large-i.ensures c.too_large-j.ensures c.too_large-k.ensures c.if-i-j.false c.requires.n_le_max_qubits.0)

pub returns-then-twice-2 : goal.returns-then-twice-2
unfolding answer_or
returns-then-twice-2 c =
    let a = c.args in
    let o = nums 2 a.a (drop 41 a.s.now) in
    let l = nums 2 a.b (drop a.l a.s.now) in
    let e = nums 2 a.c (drop a.e a.s.now) in
    ap done_or (fault-15 a.n a.m o l e true (large-seen a.n a.m o l e c.too_large-i.ensures c.too_large-j.ensures c.too_large-k.ensures c.if-i-j.false) (sym c.twice.ensures ∙ c.if-twice.false) (sym c.twice-2.ensures ∙ c.if-twice-2.true))

pub returns : goal.returns
unfolding answer_or
returns c =
    let a = c.args in
    let o = nums 2 a.a (drop 41 a.s.now) in
    let l = nums 2 a.b (drop a.l a.s.now) in
    let e = nums 2 a.c (drop a.e a.s.now) in
    ap done_or (fault-15 a.n a.m o l e false (large-seen a.n a.m o l e c.too_large-i.ensures c.too_large-j.ensures c.too_large-k.ensures c.if-i-j.false) (sym c.twice.ensures ∙ c.if-twice.false) (sym c.twice-2.ensures ∙ c.if-twice-2.false))
