-- The first and so many others are written, and those still to come are the rest of the text (Listing).
use Rattle.text.specs.Numbers.{numeral}
use Rattle.text.proofs.Listing.{Listing}
use Rattle.text.proofs.write_list.put_joined.Given as goal

abbrev pub invariant-loop-x : goal.invariant-loop-x
invariant-loop-x g l = Listing (λ x. numeral l.base (g.T.Unsigned.value x)) l.fn.first l.others l.fn.out l.at l.out l.end l.x-index
