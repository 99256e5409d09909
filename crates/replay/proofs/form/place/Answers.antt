-- No listed row from place t on has the bit: the column is passed over and t stays (`looked-none`). Else there is a row at place t (`found_in`), and
-- the column must be the pivot column of that row (`looked-no`), t going up by one (`looked-yes`).
use mathlib.Core.Path.{sym, ◌∙◌}
use Rattle.replay.proofs.Looks.{looked-none, looked-yes, looked-no}
use Rattle.replay.proofs.form.place.Goals as goal

pub returns-in_default : goal.returns-in_default
returns-in_default c =
    let a = c.args in
    looked-none a.n a.x.now a.z.now a.c a.lists.now.listed.now a.lists.now.extra.now a.t (sym c.in_default.is ∙ c.find.ensures)

pub returns-then-not-only : goal.returns-then-not-only
returns-then-not-only c =
    let a = c.args in
    looked-no a.n a.x.now a.z.now a.c a.lists.now.listed.now a.lists.now.extra.now a.t (sym c.find.ensures ∙ c.in-Some.is) (sym c.if-not-only.true ∙ c.only.ensures)

pub returns : goal.returns
returns c =
    let a = c.args in
    looked-yes a.n a.x.now a.z.now a.c a.lists.now.listed.now a.lists.now.extra.now a.t (sym c.find.ensures ∙ c.in-Some.is) (sym c.if-not-only.false ∙ c.only.ensures)
