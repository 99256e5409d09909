-- No row is found: nothing is done (`column-none`). Else the row found stands at place t or later, so that there is a pivot; its piece of the run
-- fills the log (`column-full`) or is done, and t goes up by one (`column-done`).
use Rattle.std.specs.Prelude.{◌≡◌, Err}
use Rattle.terms.proofs.Pieces.{column-none, column-full, column-done}
use Rattle.terms.proofs.RowView.{find-some, find_none}
use native.Mathlib.Omega.{arith}
use mathlib.Core.Path.{refl, sym, ◌∙◌}
use lib.ListN.{get_or}
use Rattle.terms.proofs.reduce.column.Goals as goal

pub returns-in_default : goal.returns-in_default
returns-in_default c =
    let a = c.args in
    let h = c.requires.c_bound in
    record {
      t_in_bounds = h.1;
      does = column-none c.requires.ready a.lists.now.listed.now a.lists.now.extra.now a.c (find_none c.requires.ready.sound a.lists.now.listed.now a.s.t a.c h.1 h.2 h.0 (sym c.find.ensures ∙ c.in_default.is));
    }

pub bounds-lists-t : goal.bounds-lists-t
bounds-lists-t c =
    let a = c.args in
    let h = c.requires.c_bound in
    let d = find-some c.requires.ready.sound a.lists.now.listed.now a.s.t a.c h.1 h.2 h.0 (sym c.find.ensures ∙ c.in-Some.is) in
    omega (arith, d.from, d.inside)

pub bounds-lists-f : goal.bounds-lists-f
bounds-lists-f c =
    let a = c.args in
    let h = c.requires.c_bound in
    (find-some c.requires.ready.sound a.lists.now.listed.now a.s.t a.c h.1 h.2 h.0 (sym c.find.ensures ∙ c.in-Some.is)).inside

pub pivot_by-requires : goal.pivot_by-requires
pivot_by-requires c =
    let a = c.args in
    let h = c.requires.c_bound in
    let d = find-some c.requires.ready.sound a.lists.now.listed.now a.s.t a.c h.1 h.2 h.0 (sym c.find.ensures ∙ c.in-Some.is) in
    record {
      ready = c.requires.ready;
      c_bound = (h.0, h.2 a.s.t (omega (arith, d.from, d.inside)), h.2 c.in-Some.f d.inside, h.2, h.3);
    }

pub returns-in_err-r : goal.returns-in_err-r
returns-in_err-r c =
    let a = c.args in
    let h = c.requires.c_bound in
    let d = find-some c.requires.ready.sound a.lists.now.listed.now a.s.t a.c h.1 h.2 h.0 (sym c.find.ensures ∙ c.in-Some.is) in
    let e : c.from_residual.result ≡ Err c.in_err-r.field-0.0 = grind arith in
    rw e
    (record {
      t_in_bounds = tt;
      does = column-full c.requires.ready a.lists.now.listed.now a.lists.now.extra.now a.c (get_or a.lists.now.listed.now c.in-Some.f 0) d.there refl c.in_err-r.ensures;
    })

pub overflow_add-result : goal.overflow_add-result
overflow_add-result c =
    let a = c.args in
    let h = c.requires.c_bound in
    let d = find-some c.requires.ready.sound a.lists.now.listed.now a.s.t a.c h.1 h.2 h.0 (sym c.find.ensures ∙ c.in-Some.is) in
    omega (arith, d.from, d.inside)

pub returns : goal.returns
returns c =
    let a = c.args in
    let h = c.requires.c_bound in
    let d = find-some c.requires.ready.sound a.lists.now.listed.now a.s.t a.c h.1 h.2 h.0 (sym c.find.ensures ∙ c.in-Some.is) in
    record {
      t_in_bounds = omega (arith, d.from, d.inside);
      does = column-done c.requires.ready a.lists.now.listed.now a.lists.now.extra.now a.c (get_or a.lists.now.listed.now c.in-Some.f 0) d.there refl c.in_ok-r.ensures;
    }
