-- The entry taken back is the one right before those that are, so the memory is then what the entries from it on leave. Assumes nothing.
use native.Mathlib.Omega.{arith}
use mathlib.Core.Path.{◌≡◌, ap, ◌∙◌}
use Prim.Native.Nat.{ℕ, ◌+◌, ◌-◌}
use lib.ListN.{drop}
use Rattle.encoding.specs.Set.{mem_of}
use Rattle.reduction.specs.Log.{pairs}
use Rattle.replay.specs.Workers.{mem_taken_back}
use Rattle.replay.proofs.TakenBack.{taken_none, taken_more}
use Rattle.replay.proofs.undo.take_back.Goals as goal

pub loop-k-init : goal.loop-k-init
loop-k-init c = let a = c.args in taken_none a.n a.log.now (mem_of a.m a.x.now a.z.now a.phases.now)

pub loop-k-preserved : goal.loop-k-preserved
loop-k-preserved c =
    let a = c.args in
    let M₀ = mem_of a.m a.x.now a.z.now a.phases.now in
    let e : c.loop-k.k ≡ c.loop-k.k - 1 + 1 = omega (arith, c.loop-k-test.true) in
    taken_more a.n a.log.now M₀ (c.loop-k.k - 1) (omega (arith, c.loop-k-test.true, c.loop-k.auto.k)) (c.loop-k.invariant ∙ ap (λ (j : ℕ). mem_taken_back a.n (drop j (pairs a.log.now)) M₀) e) c.imul_inverse.ensures
