-- Entry i is the next of the log's pairs, and doing it is one entry more (`redo-more`).
use mathlib.Core.Path.{refl}
use native.Mathlib.Omega.{arith}
use Rattle.encoding.specs.Set.{mem_of}
use Rattle.replay.specs.Workers.{redone}
use Rattle.replay.proofs.Log.{redo-more}
use Rattle.replay.proofs.rows.redo.Goals as goal

pub loop-i-init : goal.loop-i-init
unfolding redone
loop-i-init c = refl

pub loop-i-preserved : goal.loop-i-preserved
loop-i-preserved c =
    let a = c.args in
    let l = c.loop-i in
    let d = c.imul_unchecked in
    let M₀ = mem_of a.m a.x.now a.z.now a.phases.now in
    redo-more a.n a.log.now l.i M₀ (omega (arith, c.requires)) l.invariant d.ensures.p_value
