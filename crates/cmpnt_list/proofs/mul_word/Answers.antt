-- Row r is written in its own part of words, and its exponent is made part of the word, so that no earlier row changes (`row_done`).
use Rattle.encoding.specs.Set.{set_of}
use Rattle.cmpnt_list.specs.Workers.{word_end}
use Rattle.cmpnt_list.proofs.Pairing.{written_at, end-in, phases-none, phases-all, all-long, row_done}
use native.Mathlib.Omega.{arith}
use mathlib.Core.Path.{◌≡◌, sym, subst}
use Prim.Native.Nat.{ℕ, ◌/◌, ◌<◌, ◌≤◌}
use Rattle.cmpnt_list.proofs.mul_word.Goals as goal

pub rows_end-end-requires : goal.rows_end-end-requires
rows_end-end-requires c = (c.requires.both_ready.left.few-rows, c.requires.j_bound.0)

pub loop-r-init : goal.loop-r-init
loop-r-init c =
    let a = c.args in
    let e = c.rows_end-end.ensures in
    let i = end-in a.left.now.m a.j c.requires.j_bound.0 in
    (omega arith, omega (arith, e, i.2), omega (arith, e, i.0), omega (arith, e, i.1), c.requires.both_ready.left.few-rows, c.requires.j_bound.1.c-long, e, c.requires.j_bound.1, phases-none a.left.now.n (set_of a.left.now) (set_of a.right.now) a.j)

pub row_span-requires : goal.row_span-requires
row_span-requires c =
    let v = c.loop-r.invariant in
    let t : c.loop-r.r < c.args.left.now.m = omega (arith, c.loop-r-test.true, v.2) in
    (t, c.requires.both_ready.left.few-qubits, v.4)

pub mul_part-f-requires : goal.mul_part-f-requires
mul_part-f-requires c =
    let at = c.row_span.ensures in
    let le : c.row_span.result.start ≤ c.row_span.result.end = omega arith in
    let inside = subst (λ (k : ℕ). c.row_span.result.end ≤ k) (sym c.requires.both_ready.left.valid.x-long) at.inside in
    record {
      a_le_e = (le, inside);
      same_length = all-long c.args.left.now.n c.requires.both_ready c.requires.one_m c.loop-r.invariant.7;
    }

pub loop-r-preserved : goal.loop-r-preserved
loop-r-preserved c =
    let v = c.loop-r.invariant in
    let t : c.loop-r.r < c.rows_end-end.result = c.loop-r-test.true in
    let h : c.loop-r.r < c.args.left.now.m = omega (arith, v.2) in
    let d : c.loop-r.r / 32 ≡ c.args.j = omega (arith, v.0, v.3) in
    let more = row_done c.args.left.now.n c.requires.both_ready c.requires.one_m h d c.row_span.ensures c.mul_part-f.ensures c.mul_exponents-i.ensures c.with_exponent-word.ensures v.7 v.8 in
    (omega arith, omega arith, v.2, v.3, v.4, more.0.c-long, v.6, more.0, more.1)

pub returns : goal.returns
returns c =
    let a = c.args in
    let v = c.loop-r.invariant in
    let L = set_of a.left.now in
    let R = set_of a.right.now in
    let e : c.loop-r.r ≡ word_end a.left.now.m a.j = omega (arith, v.1, v.6, c.loop-r-test.false) in
    record {
      phases_of = phases-all a.left.now.n L R a.j c.requires.j_bound.0 e v.8;
      rows = written_at e v.7;
    }
