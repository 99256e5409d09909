use Rattle.std.proofs.Common.{refl}
use borrow.Author.Tests.{lt-ltb, le-ltb}
use Rattle.encoding.proofs.smaller.Goals as goal

pub returns-in-Ok-default : goal.returns-in-Ok-default
returns-in-Ok-default c = simp (c.in-Ok-default.is-0) refl

pub returns-in_default-Ok : goal.returns-in_default-Ok
returns-in_default-Ok c = simp (c.in_default-Ok.is-0, c.in_default-Ok.is-1) refl

pub returns-then-l-r : goal.returns-then-l-r
returns-then-l-r c = simp (c.in-Err-Err.is-0, c.in-Err-Err.is-1, lt-ltb _ _ c.if-l-r.true) refl

pub returns-else-l-r : goal.returns-else-l-r
returns-else-l-r c = simp (c.in-Err-Err.is-0, c.in-Err-Err.is-1, le-ltb _ _ c.if-l-r.false) refl
