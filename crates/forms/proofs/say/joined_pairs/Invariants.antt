-- A pair and so many others are written, and those still to come are the rest of the text (text's Listing).
use Rattle.forms.specs.Answers.{pairs_of, pair_text}
use Rattle.text.proofs.Listing.{Listing}
use Rattle.forms.proofs.say.joined_pairs.Given as goal

abbrev pub invariant-loop-i : goal.invariant-loop-i
invariant-loop-i l = Listing pair_text (l.a, l.b) (pairs_of l.others) l.fn.out l.at l.out l.end l.i
