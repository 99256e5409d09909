use mathlib.Core.Path.{◌∙◌}
use Rattle.std.proofs.Common.{rules, tests}
use Rattle.std.proofs.lemmas.Iterator.{YieldsList-from_slice}
use Rattle.std.proofs.lemmas.Iterator.Search.{any_from_yields_List}
use Rattle.encoding.specs.Refusals.{too_large}
use Rattle.late.proofs.Words.{any_some}
use Rattle.late.proofs.too_large.Goals as goal

pub returns : goal.returns
returns c =
    any_from_yields_List (too_large c.args.m) _ _ _ c.any.ensures.ran (YieldsList-from_slice c.args.list.now cc) (λ x b q k. search (rules, tests))
    ∙ any_some (too_large c.args.m) c.args.list.now
