use Rattle.std.proofs.Common.{◌^◌, ◌<◌, rules}
use Rattle.mat_elem.proofs.Bits.{borrow-set}
use Rattle.mat_elem.proofs.borrow.Goals as goal

pub returns : goal.returns
returns c =
    let d = c.wrapping_sub_u64-d.result in
    let r = c.wrapping_sub_u64.result in
    let fd : d < 2 ^ 64 = search rules in
    let fr : r < 2 ^ 64 = search rules in
    borrow-set c.args.a c.args.b d r c.ranges.a.fits c.ranges.b.fits fd fr c.wrapping_sub_u64-d.ensures.value c.wrapping_sub_u64.ensures.value
