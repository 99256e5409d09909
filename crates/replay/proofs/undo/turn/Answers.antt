use mathlib.Core.Path.{ap, ◌∙◌}
use native.Mathlib.Omega.{arith}
use Rattle.encoding.specs.Set.{with_exponent}
use Rattle.replay.specs.Workers.{turned}
use Rattle.replay.proofs.undo.turn.Goals as goal

pub returns : goal.returns
unfolding turned
returns c =
    let a = c.args in
    c.set_exponent.ensures
    ∙ ap (with_exponent a.phases.now a.a.0) (omega (arith, c.add_signs.ensures, c.get_exponent-l.ensures, c.get_exponent-e.ensures))
