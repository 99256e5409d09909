use mathlib.Core.Path.{ap, sym}
use Prim.Native.Nat.{ℕ, ◌/◌}
use lib.ListN.{set}
use lib.Seq.{set_out}
use Rattle.encoding.specs.Set.{with_exponent}
use Rattle.encoding.proofs.set_exponent.Goals as goal

pub returns-then-j-p : goal.returns-then-j-p
unfolding with_exponent
returns-then-j-p c =
    let a = c.args in
    ap (λ (v : ℕ). set a.p.now (a.r.0 / 32) v) c.with_exponent.ensures

pub returns-else-j-p : goal.returns-else-j-p
unfolding with_exponent
returns-else-j-p c = sym (set_out _ _ _ c.if-j-p.false)
