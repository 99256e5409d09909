-- The places of the items follow one another (`place-next`). Assumes nothing.
use Rattle.pwl.proofs.Kit.{sym, ap, ◌∙◌, ◌≡◌, ◌+◌, ◌*◌, ℕ, arith, drop, length}
use Rattle.text.specs.Readers.{over}
use Rattle.pwl.specs.Bytes.{les_of}
use Rattle.pwl.proofs.Fetches.{place-next, fits-next}
use Rattle.pwl.proofs.Stores.{number_next, number_end}
use Rattle.pwl.proofs.storing.put_list.Goals as goal

pub loop-v-preserved : goal.loop-v-preserved
loop-v-preserved g c =
    let e = c.loop-v.invariant in
    let k = g.T.Laid.BYTES in
    let i = c.loop-v.v-index in
    let room = fits-next k c.args.at _ c.loop-v-test.true c.requires in (
      omega (arith, e.0, c.BYTES-p.ensures, place-next k i c.args.at),
      ap (λ (j : ℕ). over (les_of k g.T.Laid.value (drop (i + 1) c.args.list.now)) (c.loop-v.p + j) c.put.new.out) c.BYTES-p.ensures
          ∙ number_next k g.T.Laid.value c.v-item.result c.args.list.now i c.loop-v.p c.loop-v.out c.put.new.out c.loop-v-test.true (omega (arith, e.0, room, c.loop-v.auto.out))
          (rw (c.BYTES.ensures, c.wide.ensures, c.v-item.is) at c.put.ensures) ∙ e.1,
    )

pub returns : goal.returns
returns g c =
    let e = c.loop-v.invariant in
    let n : c.loop-v.v-index ≡ length c.args.list.now = omega (arith, c.loop-v-test.false, c.loop-v.auto.v-index-end) in
    (e.0 ∙ ap (λ (j : ℕ). c.args.at + g.T.Laid.BYTES * j) n, sym (number_end g.T.Laid.BYTES g.T.Laid.value c.args.list.now c.loop-v.v-index c.loop-v.p c.loop-v.out c.loop-v-test.false) ∙ e.1)
