use mathlib.Core.Path.{ap₂, ◌∙◌}
use Prim.Native.Nat.{ℕ, ◌+◌, ◌%◌}
use Rattle.cmpnt_list.proofs.mul_exponents.Goals as goal

pub returns : goal.returns
returns c =
    let a = c.args in
    c.add_signs.ensures ∙ ap₂ (λ (u v : ℕ). (u + v + a.e.0) % 4) c.get_exponent-a.ensures c.get_exponent-b.ensures
