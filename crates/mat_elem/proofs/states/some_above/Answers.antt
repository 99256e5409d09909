use Rattle.std.proofs.Common.{◌≡◌, List, [], ◌∷◌, Bool, ◌||◌, refl, ap, ◌∙◌, rules, of_calls}
use Rattle.std.proofs.lemmas.Iterator.{YieldsList-from_slice}
use Rattle.std.proofs.lemmas.Iterator.Search.{any_from_yields_List}
use Rattle.std.specs.List.{list_any}
use Rattle.encoding.specs.Refusals.{some}
use Rattle.mat_elem.specs.Terms.{set_from}
use Rattle.mat_elem.proofs.states.some_above.Goals as goal

any_some : {A : Type 0} (f : A → Bool) (l : List A) → list_any f l ≡ some f l
unfolding some
any_some f [] = refl
any_some f (a ∷ l) = ap (λ b. f a || b) (any_some f l)

pub returns : goal.returns
returns c =
    any_from_yields_List (set_from c.args.n) _ _ _ c.any.ensures.ran (YieldsList-from_slice c.args.ws.now cc) (λ x b q k. search (rules, of_calls))
    ∙ any_some (set_from c.args.n) c.args.ws.now
