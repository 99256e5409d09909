-- Invariant: from the block's start up to `last` every word is t (`Running`), so no word before `last` is above t.
-- The first word that is not t is above it, since X never falls: `last` is the number of words that are not above t.
use Rattle.mat_elem.proofs.Places.{Running}
use Rattle.mat_elem.proofs.block.Given as goal

abbrev pub invariant-loop-last : goal.invariant-loop-last
invariant-loop-last l = Running l.x l.t l.last
