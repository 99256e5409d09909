-- The tests over a list, in the words that std has for what an iterator answers. Assumes nothing.
use mathlib.Core.Path.{◌≡◌, refl, ap}
use mathlib.Core.Bool.{Bool, ◌&&◌, ◌||◌}
use mathlib.Core.List.{List, [], ◌∷◌}
use Rattle.std.specs.List.{list_any, list_all}
use Rattle.pauli.specs.Lists.{some, every}

module _ {A : Type 0} (f : A → Bool) where
  pub any_some : (l : List A) → list_any f l ≡ some f l
  unfolding some
  any_some [] = refl
  any_some (a ∷ l) = ap (λ b. f a || b) (any_some l)

  pub all_every : (l : List A) → list_all f l ≡ every f l
  unfolding every
  all_every [] = refl
  all_every (a ∷ l) = ap (λ b. f a && b) (all_every l)
