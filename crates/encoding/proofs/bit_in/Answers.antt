use borrow.Author.Tests.{le-ltb}
use Rattle.std.proofs.Common.{sym, ◌∙◌, ◌/◌, ◌%◌}
use Rattle.encoding.specs.Words.{bit_at}
use Rattle.encoding.proofs.Qubits.{no-bit}
use Rattle.encoding.proofs.bit_in.Goals as goal

pub returns-then-j-x : goal.returns-then-j-x
unfolding bit_at
returns-then-j-x c = c.bit_of.ensures

pub returns-else-j-x : goal.returns-else-j-x
returns-else-j-x c = let a = c.args in le-ltb _ _ c.if-j-x.false ∙ sym (no-bit a.x.now (a.q / 64) (a.q % 64) c.if-j-x.false)
