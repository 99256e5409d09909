use Rattle.text.proofs.Kit.{sym, ◌∙◌}
use Rattle.text.specs.Numbers.{canonical}
use Rattle.text.proofs.Places.{not_led}
use Rattle.text.proofs.read.canonical.Goals as goal

pub returns-then-is_led-clause-read : goal.returns-then-is_led-clause-read
unfolding canonical
returns-then-is_led-clause-read c = rw (sym c.is_led.ensures ∙ c.if-is_led.true)

pub returns-clause-read : goal.returns-clause-read
returns-clause-read c = not_led c.args.most c.args.s.now c.args.at (sym c.is_led.ensures ∙ c.if-is_led.false) _ c.decimal.ensures.read
