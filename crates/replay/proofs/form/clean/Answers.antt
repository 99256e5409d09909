use mathlib.Core.Path.{◌∙◌}
use Rattle.std.proofs.Common.{rules, tests}
use Rattle.std.proofs.lemmas.Iterator.{YieldsList-from_slice}
use Rattle.std.proofs.lemmas.Iterator.Search.{all_from_yields_List}
use Rattle.terms.proofs.Scans.{all_every}
use Rattle.replay.specs.Workers.{off_in}
use Rattle.replay.proofs.form.clean.Goals as goal

pub returns : goal.returns
returns c =
    let a = c.args in
    all_from_yields_List (off_in a.n a.x.now a.z.now a.c a.p) _ _ _ c.all.ensures.ran (YieldsList-from_slice a.list.now cc) (λ x b q k. search (rules, tests))
    ∙ all_every (off_in a.n a.x.now a.z.now a.c a.p) a.list.now
