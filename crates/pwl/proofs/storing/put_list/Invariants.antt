-- What is still to come of the list, over what is there, is the list over what was there: an item that is put goes over to what is there
-- (`number_next`), and at the end nothing is to come (`number_end`).
use mathlib.Core.Path.{◌≡◌}
use Prim.Native.Nat.{◌+◌, ◌*◌}
use lib.ListN.{drop}
use Rattle.text.specs.Readers.{over}
use Rattle.pwl.specs.Bytes.{les_of}
use Rattle.pwl.proofs.storing.put_list.Given as goal

abbrev pub invariant-loop-v : goal.invariant-loop-v
invariant-loop-v g l = (l.p ≡ l.at + g.T.Laid.BYTES * l.v-index) × (over (les_of g.T.Laid.BYTES g.T.Laid.value (drop l.v-index l.list)) l.p l.out ≡ over (les_of g.T.Laid.BYTES g.T.Laid.value l.list) l.at l.initial.out)
