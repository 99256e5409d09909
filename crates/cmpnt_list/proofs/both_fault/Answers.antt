-- The two parts stand by rank (`both-parts-fit`); where neither set is refused, both are sound (`both-ready`).
use Rattle.encoding.specs.Set.{set_of}
use Rattle.encoding.specs.Refusals.{set_lines}
use Rattle.encoding.proofs.Ranks.{both-parts}
use Rattle.cmpnt_list.proofs.Tests.{both-parts-fit, both-ready}
use Rattle.cmpnt_list.proofs.both_fault.Goals as goal

pub returns : goal.returns
returns c =
    let l = c.args.left.now in
    let r = c.args.right.now in
    record {
      value = both-parts (set_lines l.n (set_of l)) (set_lines r.n (set_of r)) (both-parts-fit l.n r.n (set_of l) (set_of r)) c.set_fault.ensures.value c.set_fault-2.ensures.value c.smaller.ensures;
      none = both-ready l.n r.n (set_of l) (set_of r) c.set_fault.ensures.value c.set_fault-2.ensures.value c.smaller.ensures c.set_fault.ensures.valid c.set_fault-2.ensures.valid;
    }
