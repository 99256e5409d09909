use mathlib.Core.Path.{◌∙◌}
use Prim.Native.Nat.{◌+◌}
use Rattle.std.proofs.Common.{rules, tests}
use Rattle.std.proofs.lemmas.Iterator.{YieldsList-from_slice}
use Rattle.std.proofs.lemmas.Iterator.Search.{any_from_yields_List}
use Rattle.encoding.specs.Refusals.{too_large}
use Rattle.terms.proofs.Scans.{any_some}
use Rattle.terms.proofs.lists.too_large.Goals as goal

pub returns : goal.returns
returns c =
    let a = c.args in
    any_from_yields_List (too_large (a.a + a.b)) _ _ _ c.any.ensures.ran (YieldsList-from_slice a.list.now cc) (λ x b q k. search (rules, tests))
    ∙ any_some (too_large (a.a + a.b)) a.list.now
