use mathlib.Core.Bool.{Bool, cond}
use borrow.Author.Tests.{lt-ltb, le-ltb}
use mathlib.Core.Path.{sym, ap}
use Prim.Native.Nat.{◌+◌, ◌*◌}
use Rattle.cmpnt_list.proofs.rows_end.Goals as goal

pub returns-then-m-j-lt32 : goal.returns-then-m-j-lt32
returns-then-m-j-lt32 c = sym (ap (λ (b : Bool). cond b c.args.m (c.args.j * 32 + 32)) (lt-ltb _ _ c.if-m-j-lt32.true))

pub returns : goal.returns
returns c = sym (ap (λ (b : Bool). cond b c.args.m (c.args.j * 32 + 32)) (le-ltb _ _ c.if-m-j-lt32.false))
