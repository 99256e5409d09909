-- `late::columns` meets its contract: where what is asked holds, the run is done in the scratch arrays; else nothing is changed, and the answer is
-- the start. Assumes nothing.
use mathlib.Core.Path.{refl}
use Rattle.late.specs.Workers.{reduced, kept-all}
use Rattle.late.proofs.Scratch.{told-yes, told-no}
use Rattle.late.proofs.columns.Goals as goal

pub scratched-requires : goal.scratched-requires
scratched-requires c = told-yes c.ready.ensures c.if-ready.true

pub returns-then-ready : goal.returns-then-ready
returns-then-ready c = reduced (told-yes c.ready.ensures c.if-ready.true) c.scratched.ensures

pub returns : goal.returns
returns c = kept-all (told-no c.ready.ensures c.if-ready.false) refl refl refl
