-- One case a verdict: what is written is the text that `text_of` has for it.
-- Every text has room in 64 bytes, its number with at most 21 digits.
use Rattle.verdict.specs.Verdict.{text_of}
use Rattle.verdict.proofs.put_verdict.Goals as goal

pub returns-in-BadEntry : goal.returns-in-BadEntry
unfolding text_of
returns-in-BadEntry c = rw c.in-BadEntry.is c.put_numbered.ensures

pub returns-in-Differs : goal.returns-in-Differs
unfolding text_of
returns-in-Differs c = rw c.in-Differs.is c.put_numbered-in-Differs.ensures

pub returns-in-NotReduced : goal.returns-in-NotReduced
unfolding text_of
returns-in-NotReduced c = rw c.in-NotReduced.is c.put_plain.ensures

pub returns-in-Yes : goal.returns-in-Yes
unfolding text_of
returns-in-Yes c = rw c.in-Yes.is c.put_plain-in-Yes.ensures
