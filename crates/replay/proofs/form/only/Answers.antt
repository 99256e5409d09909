-- The three ways out, in order: row p has the bit clear (`only-no-bit`), some other listed row has it set (`only-no-listed`), or the extra rows
-- decide (`only-extra`). Together they are the test over both lists.
use mathlib.Core.Path.{sym, ◌∙◌}
use Rattle.replay.proofs.Looks.{only-no-bit, only-no-listed, only-extra}
use Rattle.replay.proofs.form.only.Goals as goal

pub returns-then-not-get_bit : goal.returns-then-not-get_bit
returns-then-not-get_bit c =
    let a = c.args in
    let b = c.get_bit in
    only-no-bit a.n a.x.now a.z.now a.lists.now.listed.now a.lists.now.extra.now a.c a.p (sym c.if-not-get_bit.true ∙ b.ensures)

pub returns-then-not-clean : goal.returns-then-not-clean
returns-then-not-clean c =
    let a = c.args in
    let b = c.get_bit in
    let l = c.clean in
    let one = sym c.if-not-get_bit.false ∙ b.ensures in
    only-no-listed a.n a.x.now a.z.now a.lists.now.listed.now a.lists.now.extra.now a.c a.p one (sym c.if-not-clean.true ∙ l.ensures)

pub returns : goal.returns
returns c =
    let a = c.args in
    let b = c.get_bit in
    let l = c.clean in
    let one = sym c.if-not-get_bit.false ∙ b.ensures in
    only-extra a.n a.x.now a.z.now a.lists.now.listed.now a.lists.now.extra.now a.c a.p one (sym c.if-not-clean.false ∙ l.ensures) c.clean-2.ensures
