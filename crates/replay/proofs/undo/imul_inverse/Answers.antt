use mathlib.Core.Path.{ap, ◌∙◌}
use Prim.Native.Nat.{ℕ}
use mathlib.Core.List.{List}
use Rattle.encoding.specs.Set.{Mem, mem_of}
use Rattle.replay.specs.Workers.{turned, mul_back_in}
use Rattle.replay.proofs.undo.imul_inverse.Goals as goal

pub returns : goal.returns
unfolding mul_back_in
returns c =
    let a = c.args in
    let m = c.imul_unchecked in
    let t = c.turn in
    ap (λ (es : List ℕ). mem_of a.m m.new.x m.new.z es) t.ensures
    ∙ ap (λ (N : Mem). mem_of N.m N.xs N.zs (turned a.a.0 a.b.0 N.es)) m.ensures.p_value
