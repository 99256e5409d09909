-- The two parts stand by rank (`third-parts`); where neither is refused, the third set has its size (`third-ready`).
use Rattle.encoding.specs.Set.{set_of}
use Rattle.encoding.specs.Refusals.{out_lines}
use Rattle.encoding.proofs.Ranks.{both-parts}
use Rattle.cmpnt_list.specs.Calls.{clash_lines}
use Rattle.cmpnt_list.proofs.Tests.{third-parts, third-ready}
use Rattle.cmpnt_list.proofs.third_fault.Goals as goal

pub returns : goal.returns
returns c =
    let o = c.args.out.now in
    record {
      value = both-parts (clash_lines o.m c.args.q) (out_lines o.n (set_of o)) (third-parts o.n o.m c.args.q (set_of o)) c.numbers_fault.ensures c.out_fault.ensures c.smaller.ensures;
      none = third-ready o.n c.args.q (set_of o) c.numbers_fault.ensures c.out_fault.ensures c.smaller.ensures;
    }
