-- Word j adds its rows and is written once; past the last word no row is left (`all_words`).
use Rattle.encoding.specs.Set.{set_of, phase_units}
use Rattle.cmpnt_list.proofs.Pairing.{written_at, no_words, written_none, next_word, this-word, all_words, phases-laid, phases-more, written_all, numbered-all}
use native.Mathlib.Omega.{arith}
use mathlib.Core.Path.{◌≡◌, refl, sym, ◌∙◌, subst}
use native.Mathlib.Nat.{not-suc-le-zero}
use Prim.Native.Nat.{ℕ, ◌<◌}
use lib.ListN.{length, length-set}
use Rattle.cmpnt_list.proofs.mul_rows.Goals as goal

pub loop-j-init : goal.loop-j-init
loop-j-init c =
    (omega arith, c.requires.third_ready.e-long, c.requires.both_ready.left.few-rows, written_at (no_words c.args.left.now.m) (written_none c.args.left.now.n c.requires.third_ready refl), λ i h. absurd (not-suc-le-zero h))

pub mul_word-requires : goal.mul_word-requires
mul_word-requires c =
    let v = c.loop-j.invariant in
    let t = c.loop-j-test.true in
    let h : c.loop-j.j < phase_units c.args.left.now.m = omega (arith, v.1, t) in
    let a = c.args in
    record {
      both_ready = c.requires.both_ready;
      one_m = c.requires.one_m;
      j_bound = (h, written_at (this-word a.left.now.m c.loop-j.j h) v.3);
    }

pub loop-j-preserved : goal.loop-j-preserved
loop-j-preserved c =
    let a = c.args in
    let v = c.loop-j.invariant in
    let t : c.loop-j.j < length c.loop-j.op = omega (arith, c.loop-j-test.true, c.loop-j.auto.op) in
    let h : c.loop-j.j < phase_units a.left.now.m = omega (arith, v.1, t) in
    let L = set_of a.left.now in
    let R = set_of a.right.now in
    let l = length-set c.loop-j.op c.loop-j.j c.mul_word.result in
    (omega (arith, l), l ∙ v.1, v.2, written_at (next_word a.left.now.m c.loop-j.j h) c.mul_word.ensures.rows, phases-more a.left.now.n L R c.loop-j.op t c.mul_word.ensures.phases_of v.4)

pub returns : goal.returns
returns c =
    let a = c.args in
    let v = c.loop-j.invariant in
    let L = set_of a.left.now in
    let R = set_of a.right.now in
    let t = c.loop-j-test.false in
    let e : c.loop-j.j ≡ phase_units a.left.now.m = omega (arith, v.0, v.1) in
    let d = written_at (all_words a.left.now.m c.loop-j.j e) v.3 in
    (written_all a.left.now.n d (phases-laid a.left.now.n L R v.1 (λ i h. v.4 i (subst (λ (k : ℕ). i < k) (sym e) h))), numbered-all a.left.now.n d)
