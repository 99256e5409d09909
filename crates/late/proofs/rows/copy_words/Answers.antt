-- The part that is written is that of the source, and the rest is as it was.
use native.Mathlib.Omega.{arith}
use mathlib.Core.Path.{◌≡◌, ◌∙◌}
use Prim.Native.Nat.{◌+◌, ◌-◌}
use lib.ListN.{length, drop, length-drop, length-take}
use Rattle.products.proofs.PartLaws.{part-put, outside-put}
use Rattle.late.proofs.rows.copy_words.Goals as goal

pub returns : goal.returns
returns c =
    let a = c.args in
    let l : length c.copy_from_slice.new.self ≡ a.d + a.w - a.d = c.copy_from_slice.ensures.len ∙ omega (arith, length-take (a.d + a.w - a.d) (drop a.d a.x.now), length-drop a.d a.x.now, c.requires.0) in
    record {
      here = part-put a.d (a.d + a.w) a.x.now c.copy_from_slice.new.self (omega arith) c.requires.0 l ∙ c.copy_from_slice.ensures.after;
      rest = outside-put a.d (a.d + a.w) a.x.now c.copy_from_slice.new.self (omega arith) c.requires.0 l;
    }
