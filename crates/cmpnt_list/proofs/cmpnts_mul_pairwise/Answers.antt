-- The call's lines stand by rank (`all-parts`). At a refusal nothing is written; where neither part is refused the worker may write, and what it leaves
-- is the answer's.
use Rattle.std.proofs.Common.{rules, refl, ◌≡◌, Err, sym, ◌∙◌}
use lib.ListN.{length}
use Rattle.encoding.specs.Set.{mem_of}
use Rattle.encoding.specs.Refusals.{set_lines, out_lines}
use Rattle.encoding.specs.Ranks.{joined}
use Rattle.encoding.proofs.Faults.{refusing, passing, kept, made, both-ok, if-ok}
use Rattle.encoding.proofs.Ranks.{both-parts}
use Rattle.cmpnt_list.specs.Calls.{clash_lines}
use Rattle.cmpnt_list.proofs.Tests.{all-parts}
use Rattle.cmpnt_list.proofs.cmpnts_mul_pairwise.Goals as goal

pub returns-in_err-smaller : goal.returns-in_err-smaller
returns-in_err-smaller c =
    let a = c.args in
    let L = mem_of a.m a.lx.now a.lz.now a.lp.now in
    let R = mem_of a.m a.rx.now a.rz.now a.rp.now in
    let O = mem_of a.m a.ox.now a.oz.now a.op.now in
    let q = length a.clashes.now in
    let e = both-parts (joined (set_lines a.n L) (set_lines a.n R)) (joined (clash_lines a.m q) (out_lines a.n O)) (all-parts a.n L R O a.m q)
    c.both_fault.ensures.value c.third_fault-third.ensures.value c.smaller.ensures in
    let h : c.from_residual.result ≡ Err c.in_err-smaller.field-0.0 = search rules in
    record {
      one-m = refl;
      answer = h ∙ refusing _ _ e c.in_err-smaller.was _;
      rows = kept _ _ e c.in_err-smaller.was _ _;
      numbers = kept _ _ e c.in_err-smaller.was _ _;
    }

pub mul_rows-requires : goal.mul_rows-requires
mul_rows-requires c =
    let p = both-ok c.both_fault.result c.third_fault-third.result (sym c.smaller.ensures ∙ c.in_ok-smaller.was) in
    record {
      both_ready = if-ok _ p.0 c.both_fault.ensures.none refl;
      one_m = refl;
      third_ready = if-ok _ p.1 c.third_fault-third.ensures.none;
    }

pub returns : goal.returns
returns c =
    let a = c.args in
    let L = mem_of a.m a.lx.now a.lz.now a.lp.now in
    let R = mem_of a.m a.rx.now a.rz.now a.rp.now in
    let O = mem_of a.m a.ox.now a.oz.now a.op.now in
    let q = length a.clashes.now in
    let e = both-parts (joined (set_lines a.n L) (set_lines a.n R)) (joined (clash_lines a.m q) (out_lines a.n O)) (all-parts a.n L R O a.m q)
    c.both_fault.ensures.value c.third_fault-third.ensures.value c.smaller.ensures in
    record {
      one-m = refl;
      answer = passing _ _ e c.in_ok-smaller.was _;
      rows = c.mul_rows.ensures.0 ∙ made _ _ e c.in_ok-smaller.was _ _;
      numbers = c.mul_rows.ensures.1 ∙ made _ _ e c.in_ok-smaller.was _ _;
    }
