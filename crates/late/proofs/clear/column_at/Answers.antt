use mathlib.Core.Path.{refl}
use Rattle.late.specs.Workers.{in-x, in-z}
use Rattle.late.proofs.clear.column_at.Goals as goal

pub returns-then-c-n : goal.returns-then-c-n
returns-then-c-n c = in-x c.if-c-n.true refl refl c.words-w.ensures refl refl

pub returns : goal.returns
returns c = in-z c.if-c-n.false refl refl c.words-w.ensures refl refl
