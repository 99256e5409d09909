use Rattle.std.proofs.Common.{ltb, slice_range, rules, of_calls}
use Rattle.std.proofs.lemmas.List.Sorted.{IsPartitionPoint-from_clause}
use Rattle.mat_elem.proofs.Places.{parted, point-is}
use Rattle.mat_elem.proofs.lower.Goals as goal

pub returns : goal.returns
returns c =
    let a = c.args in
    let b = c.requires.low_bound in
    let p = c.partition_point in
    let q = parted a.x.now a.t c.requires.x_value a.low a.high b.0 b.1 b.2 in
    point-is a.x.now a.t c.requires.x_value a.low a.high b.0 b.1 b.2 p.result p.ensures.bound
    (IsPartitionPoint-from_clause (λ n. ltb n a.t) (slice_range a.x.now a.low a.high) p.result p.ensures.partitioned q (λ k r f v. search (rules, of_calls)))
